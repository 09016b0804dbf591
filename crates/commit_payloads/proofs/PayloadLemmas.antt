-- What a payload's parts say of the whole.
use Rattle.std.proofs.Common.{◌≡◌, ℕ, List, ◌∷◌, Bool, true, false, None, refl, sym, ap, subst, ◌∙◌}
use Rattle.segment_rows.specs.Exact.{IsSpelling, Spells}
use Rattle.segment_rows.specs.FieldLaws.{whole_law, list_exact, text_exact}
use Rattle.segment_rows.specs.Ranges.{IsList, IsText}
use Rattle.segment_rows.specs.Spelling.{spelled_list, spelled_text}
use Rattle.commit_payloads.specs.declared.definition.Definition.{Definition}
use Rattle.commit_payloads.specs.declared.payload.Payload.{Payload}
use Rattle.commit_payloads.specs.declared.payload.Payload.TheVariants as payload
use Rattle.commit_payloads.specs.declared.state.State.{State}
use Rattle.commit_payloads.specs.declared.take.Refresh.{Refresh}
use Rattle.commit_payloads.specs.declared.take.Take.{Take}
use Rattle.commit_payloads.specs.Forms.{all_fit, IsBase, IsBatch, IsRenewal}
use Rattle.commit_payloads.specs.PartLaws.{definition_exact, refresh_exact, take_exact}
use Rattle.commit_payloads.specs.Payloads.{fresh_byte, spelled_payload, HasSpelling}
use Rattle.commit_payloads.specs.Ranges.{IsDefinition, IsRefresh, IsState, IsTake}
use Rattle.commit_payloads.specs.Spelling.{spelled_definition, spelled_refresh, spelled_state, spelled_take}
use Rattle.commit_payloads.specs.StateLaws.{state_exact}

pub no_front : (bytes : List ℕ) → ((tag : ℕ) (rest : List ℕ) → bytes ≡ 1 ∷ tag ∷ rest → ⊥) → Spells spelled_payload HasSpelling bytes None
no_front bytes none (payload.Define fresh list) has e = none 1 (fresh_byte fresh ∷ spelled_list spelled_definition list) e
no_front bytes none (payload.Take take) has e = none 2 (spelled_take take) e
no_front bytes none (payload.Refresh refresh) has e = none 3 (spelled_refresh refresh) e
no_front bytes none (payload.Reset names) has e = none 4 (spelled_list spelled_text names) e
no_front bytes none (payload.Base state) has e = none 5 (spelled_state state) e

pub other_tag : (tag : ℕ) (rest : List ℕ) → (tag ≡ 1 → ⊥) → (tag ≡ 2 → ⊥) → (tag ≡ 3 → ⊥) → (tag ≡ 4 → ⊥) → (tag ≡ 5 → ⊥) → Spells spelled_payload HasSpelling (1 ∷ tag ∷ rest) None
other_tag tag rest not1 not2 not3 not4 not5 (payload.Define fresh list) has e = not1 cc
other_tag tag rest not1 not2 not3 not4 not5 (payload.Take take) has e = not2 cc
other_tag tag rest not1 not2 not3 not4 not5 (payload.Refresh refresh) has e = not3 cc
other_tag tag rest not1 not2 not3 not4 not5 (payload.Reset names) has e = not4 cc
other_tag tag rest not1 not2 not3 not4 not5 (payload.Base state) has e = not5 cc

-- ---- take

pub take_none : (rest : List ℕ) → Spells spelled_take IsTake rest None → Spells spelled_payload HasSpelling (1 ∷ 2 ∷ rest) None
take_none rest none (payload.Define fresh list) has e = absurd cc
take_none rest none (payload.Take take) has e = none take has.0 cc
take_none rest none (payload.Refresh refresh) has e = absurd cc
take_none rest none (payload.Reset names) has e = absurd cc
take_none rest none (payload.Base state) has e = absurd cc

pub take_refused : (rest : List ℕ) (batch : Take) → IsSpelling spelled_take IsTake rest batch → (IsBatch batch → ⊥) → Spells spelled_payload HasSpelling (1 ∷ 2 ∷ rest) None
take_refused rest batch is not (payload.Define fresh list) has e = absurd cc
take_refused rest batch is not (payload.Take other) has e = not (subst IsBatch (is.only other has.0 cc) has.1)
take_refused rest batch is not (payload.Refresh refresh) has e = absurd cc
take_refused rest batch is not (payload.Reset names) has e = absurd cc
take_refused rest batch is not (payload.Base state) has e = absurd cc

only_take : (rest : List ℕ) (batch : Take) → IsSpelling spelled_take IsTake rest batch → (other : Payload) → HasSpelling other → 1 ∷ 2 ∷ rest ≡ spelled_payload other → other ≡ payload.Take batch
only_take rest batch is (payload.Define fresh list) has e = absurd cc
only_take rest batch is (payload.Take other) has e = ap payload.Take (is.only other has.0 cc)
only_take rest batch is (payload.Refresh refresh) has e = absurd cc
only_take rest batch is (payload.Reset names) has e = absurd cc
only_take rest batch is (payload.Base state) has e = absurd cc

pub take_is : (rest : List ℕ) (batch : Take) → IsSpelling spelled_take IsTake rest batch → IsBatch batch → IsSpelling spelled_payload HasSpelling (1 ∷ 2 ∷ rest) (payload.Take batch)
take_is rest batch is fits = record { range = (is.range, fits); bytes_are = ap (λ (s : List ℕ). 1 ∷ 2 ∷ s) is.bytes_are; only = only_take rest batch is }

-- ---- refresh

pub refresh_none : (rest : List ℕ) → Spells spelled_refresh IsRefresh rest None → Spells spelled_payload HasSpelling (1 ∷ 3 ∷ rest) None
refresh_none rest none (payload.Define fresh list) has e = absurd cc
refresh_none rest none (payload.Take take) has e = absurd cc
refresh_none rest none (payload.Refresh refresh) has e = none refresh has.0 cc
refresh_none rest none (payload.Reset names) has e = absurd cc
refresh_none rest none (payload.Base state) has e = absurd cc

pub refresh_refused : (rest : List ℕ) (renewal : Refresh) → IsSpelling spelled_refresh IsRefresh rest renewal → (IsRenewal renewal → ⊥) → Spells spelled_payload HasSpelling (1 ∷ 3 ∷ rest) None
refresh_refused rest renewal is not (payload.Define fresh list) has e = absurd cc
refresh_refused rest renewal is not (payload.Take take) has e = absurd cc
refresh_refused rest renewal is not (payload.Refresh other) has e = not (subst IsRenewal (is.only other has.0 cc) has.1)
refresh_refused rest renewal is not (payload.Reset names) has e = absurd cc
refresh_refused rest renewal is not (payload.Base state) has e = absurd cc

only_refresh : (rest : List ℕ) (renewal : Refresh) → IsSpelling spelled_refresh IsRefresh rest renewal → (other : Payload) → HasSpelling other → 1 ∷ 3 ∷ rest ≡ spelled_payload other → other ≡ payload.Refresh renewal
only_refresh rest renewal is (payload.Define fresh list) has e = absurd cc
only_refresh rest renewal is (payload.Take take) has e = absurd cc
only_refresh rest renewal is (payload.Refresh other) has e = ap payload.Refresh (is.only other has.0 cc)
only_refresh rest renewal is (payload.Reset names) has e = absurd cc
only_refresh rest renewal is (payload.Base state) has e = absurd cc

pub refresh_is : (rest : List ℕ) (renewal : Refresh) → IsSpelling spelled_refresh IsRefresh rest renewal → IsRenewal renewal → IsSpelling spelled_payload HasSpelling (1 ∷ 3 ∷ rest) (payload.Refresh renewal)
refresh_is rest renewal is fits = record { range = (is.range, fits); bytes_are = ap (λ (s : List ℕ). 1 ∷ 3 ∷ s) is.bytes_are; only = only_refresh rest renewal is }

-- ---- reset

pub reset_none : (rest : List ℕ) → Spells (spelled_list spelled_text) (IsList IsText) rest None → Spells spelled_payload HasSpelling (1 ∷ 4 ∷ rest) None
reset_none rest none (payload.Define fresh others) has e = absurd cc
reset_none rest none (payload.Take take) has e = absurd cc
reset_none rest none (payload.Refresh refresh) has e = absurd cc
reset_none rest none (payload.Reset names) has e = none names has cc
reset_none rest none (payload.Base state) has e = absurd cc

only_reset : (rest : List ℕ) (list : List (List ℕ)) → IsSpelling (spelled_list spelled_text) (IsList IsText) rest list → (other : Payload) → HasSpelling other → 1 ∷ 4 ∷ rest ≡ spelled_payload other → other ≡ payload.Reset list
only_reset rest list is (payload.Define fresh others) has e = absurd cc
only_reset rest list is (payload.Take take) has e = absurd cc
only_reset rest list is (payload.Refresh refresh) has e = absurd cc
only_reset rest list is (payload.Reset other) has e = ap payload.Reset (is.only other has cc)
only_reset rest list is (payload.Base state) has e = absurd cc

pub reset_is : (rest : List ℕ) (list : List (List ℕ)) → IsSpelling (spelled_list spelled_text) (IsList IsText) rest list → IsSpelling spelled_payload HasSpelling (1 ∷ 4 ∷ rest) (payload.Reset list)
reset_is rest list is = record { range = is.range; bytes_are = ap (λ (s : List ℕ). 1 ∷ 4 ∷ s) is.bytes_are; only = only_reset rest list is }

-- ---- base

pub base_none : (rest : List ℕ) → Spells spelled_state IsState rest None → Spells spelled_payload HasSpelling (1 ∷ 5 ∷ rest) None
base_none rest none (payload.Define fresh list) has e = absurd cc
base_none rest none (payload.Take take) has e = absurd cc
base_none rest none (payload.Refresh refresh) has e = absurd cc
base_none rest none (payload.Reset names) has e = absurd cc
base_none rest none (payload.Base state) has e = none state has.0 cc

pub base_refused : (rest : List ℕ) (state : State) → IsSpelling spelled_state IsState rest state → (IsBase state → ⊥) → Spells spelled_payload HasSpelling (1 ∷ 5 ∷ rest) None
base_refused rest state is not (payload.Define fresh list) has e = absurd cc
base_refused rest state is not (payload.Take take) has e = absurd cc
base_refused rest state is not (payload.Refresh refresh) has e = absurd cc
base_refused rest state is not (payload.Reset names) has e = absurd cc
base_refused rest state is not (payload.Base other) has e = not (subst IsBase (is.only other has.0 cc) has.1)

only_base : (rest : List ℕ) (state : State) → IsSpelling spelled_state IsState rest state → (other : Payload) → HasSpelling other → 1 ∷ 5 ∷ rest ≡ spelled_payload other → other ≡ payload.Base state
only_base rest state is (payload.Define fresh list) has e = absurd cc
only_base rest state is (payload.Take take) has e = absurd cc
only_base rest state is (payload.Refresh refresh) has e = absurd cc
only_base rest state is (payload.Reset names) has e = absurd cc
only_base rest state is (payload.Base other) has e = ap payload.Base (is.only other has.0 cc)

pub base_is : (rest : List ℕ) (state : State) → IsSpelling spelled_state IsState rest state → IsBase state → IsSpelling spelled_payload HasSpelling (1 ∷ 5 ∷ rest) (payload.Base state)
base_is rest state is fits = record { range = (is.range, fits); bytes_are = ap (λ (s : List ℕ). 1 ∷ 5 ∷ s) is.bytes_are; only = only_base rest state is }

-- ---- definitions

pub no_fresh : (bytes : List ℕ) → ((fresh : Bool) (rest : List ℕ) → bytes ≡ fresh_byte fresh ∷ rest → ⊥) → Spells spelled_payload HasSpelling (1 ∷ 1 ∷ bytes) None
no_fresh bytes none (payload.Define fresh list) has e = none fresh (spelled_list spelled_definition list) cc
no_fresh bytes none (payload.Take take) has e = absurd cc
no_fresh bytes none (payload.Refresh refresh) has e = absurd cc
no_fresh bytes none (payload.Reset names) has e = absurd cc
no_fresh bytes none (payload.Base state) has e = absurd cc

same_fresh : (a b : Bool) → fresh_byte a ≡ fresh_byte b → a ≡ b
same_fresh true true e = refl
same_fresh false false e = refl
same_fresh true false e = absurd cc
same_fresh false true e = absurd cc

pub define_none : (fresh : Bool) (rest : List ℕ) → Spells (spelled_list spelled_definition) (IsList IsDefinition) rest None → Spells spelled_payload HasSpelling (1 ∷ 1 ∷ fresh_byte fresh ∷ rest) None
define_none fresh rest none (payload.Define other list) has e = none list has.0 cc
define_none fresh rest none (payload.Take take) has e = absurd cc
define_none fresh rest none (payload.Refresh refresh) has e = absurd cc
define_none fresh rest none (payload.Reset names) has e = absurd cc
define_none fresh rest none (payload.Base state) has e = absurd cc

pub define_refused : (fresh : Bool) (rest : List ℕ) (list : List Definition) → IsSpelling (spelled_list spelled_definition) (IsList IsDefinition) rest list → all_fit list ≡ false → Spells spelled_payload HasSpelling (1 ∷ 1 ∷ fresh_byte fresh ∷ rest) None
define_refused fresh rest list is fails (payload.Define other others) has e =
    let same : others ≡ list = is.only others has.0 cc in
    let fits : all_fit list ≡ true = sym (ap all_fit same) ∙ has.1 in
    absurd cc
define_refused fresh rest list is fails (payload.Take take) has e = absurd cc
define_refused fresh rest list is fails (payload.Refresh refresh) has e = absurd cc
define_refused fresh rest list is fails (payload.Reset names) has e = absurd cc
define_refused fresh rest list is fails (payload.Base state) has e = absurd cc

only_define : (fresh : Bool) (rest : List ℕ) (list : List Definition) → IsSpelling (spelled_list spelled_definition) (IsList IsDefinition) rest list → (other : Payload) → HasSpelling other → 1 ∷ 1 ∷ fresh_byte fresh ∷ rest ≡ spelled_payload other → other ≡ payload.Define fresh list
only_define fresh rest list is (payload.Define other others) has e =
    let same : others ≡ list = is.only others has.0 cc in
    let alike : other ≡ fresh = same_fresh other fresh cc in
    cc
only_define fresh rest list is (payload.Take take) has e = absurd cc
only_define fresh rest list is (payload.Refresh refresh) has e = absurd cc
only_define fresh rest list is (payload.Reset names) has e = absurd cc
only_define fresh rest list is (payload.Base state) has e = absurd cc

pub define_is : (fresh : Bool) (rest : List ℕ) (list : List Definition) → IsSpelling (spelled_list spelled_definition) (IsList IsDefinition) rest list → all_fit list ≡ true → IsSpelling spelled_payload HasSpelling (1 ∷ 1 ∷ fresh_byte fresh ∷ rest) (payload.Define fresh list)
define_is fresh rest list is fits = record { range = (is.range, fits); bytes_are = ap (λ (s : List ℕ). 1 ∷ 1 ∷ fresh_byte fresh ∷ s) is.bytes_are; only = only_define fresh rest list is }

-- ---- payloads

pub one_payload : (a b : Payload) → HasSpelling a → HasSpelling b → spelled_payload a ≡ spelled_payload b → a ≡ b
one_payload (payload.Define fresh list) (payload.Define other others) is js e =
    let same : list ≡ others = whole_law (list_exact definition_exact) list others is.0 js.0 cc in
    let alike : fresh ≡ other = same_fresh fresh other cc in
    cc
one_payload (payload.Take take) (payload.Take other) is js e = ap payload.Take (whole_law take_exact take other is.0 js.0 cc)
one_payload (payload.Refresh refresh) (payload.Refresh other) is js e = ap payload.Refresh (whole_law refresh_exact refresh other is.0 js.0 cc)
one_payload (payload.Reset names) (payload.Reset others) is js e = ap payload.Reset (whole_law (list_exact text_exact) names others is js cc)
one_payload (payload.Define fresh list) (payload.Take take) is js e = absurd cc
one_payload (payload.Define fresh list) (payload.Refresh refresh) is js e = absurd cc
one_payload (payload.Define fresh list) (payload.Reset names) is js e = absurd cc
one_payload (payload.Take take) (payload.Define other others) is js e = absurd cc
one_payload (payload.Take take) (payload.Refresh refresh) is js e = absurd cc
one_payload (payload.Take take) (payload.Reset names) is js e = absurd cc
one_payload (payload.Refresh refresh) (payload.Define other others) is js e = absurd cc
one_payload (payload.Refresh refresh) (payload.Take take) is js e = absurd cc
one_payload (payload.Refresh refresh) (payload.Reset names) is js e = absurd cc
one_payload (payload.Reset names) (payload.Define other others) is js e = absurd cc
one_payload (payload.Reset names) (payload.Take take) is js e = absurd cc
one_payload (payload.Reset names) (payload.Refresh refresh) is js e = absurd cc
one_payload (payload.Base state) (payload.Base other) is js e = ap payload.Base (whole_law state_exact state other is.0 js.0 cc)
one_payload (payload.Base state) (payload.Define fresh list) is js e = absurd cc
one_payload (payload.Base state) (payload.Take take) is js e = absurd cc
one_payload (payload.Base state) (payload.Refresh refresh) is js e = absurd cc
one_payload (payload.Base state) (payload.Reset names) is js e = absurd cc
one_payload (payload.Define fresh list) (payload.Base state) is js e = absurd cc
one_payload (payload.Take take) (payload.Base state) is js e = absurd cc
one_payload (payload.Refresh refresh) (payload.Base state) is js e = absurd cc
one_payload (payload.Reset names) (payload.Base state) is js e = absurd cc
