-- What a payload's parts say of the whole.
use Rattle.std.proofs.Common.{◌≡◌, ℕ, List, ◌∷◌, Bool, true, false, None, refl, sym, ap, subst, ◌∙◌}
use Rattle.segment_rows.specs.Exact.{IsSpelling, Spells}
use Rattle.segment_rows.specs.FieldLaws.{whole_law, list_exact}
use Rattle.segment_rows.specs.Ranges.{IsList}
use Rattle.segment_rows.specs.Spelling.{spelled_list}
use Rattle.commit_records.specs.declared.definition.Definition.{Definition}
use Rattle.commit_records.specs.declared.payload.Payload.{Payload}
use Rattle.commit_records.specs.declared.payload.Payload.TheVariants as payload
use Rattle.commit_records.specs.declared.take.Take.{Take}
use Rattle.commit_records.specs.Forms.{all_fit, IsBatch}
use Rattle.commit_records.specs.PartLaws.{definition_exact, take_exact}
use Rattle.commit_records.specs.Payloads.{fresh_byte, spelled_payload, HasSpelling}
use Rattle.commit_records.specs.Ranges.{IsDefinition, IsTake}
use Rattle.commit_records.specs.Spelling.{spelled_definition, spelled_take}

pub no_front : (bytes : List ℕ) → ((tag : ℕ) (rest : List ℕ) → bytes ≡ 1 ∷ tag ∷ rest → ⊥) → Spells spelled_payload HasSpelling bytes None
no_front bytes none (payload.Define fresh list) has e = none 1 (fresh_byte fresh ∷ spelled_list spelled_definition list) e
no_front bytes none (payload.Take take) has e = none 2 (spelled_take take) e
no_front bytes none (payload.Refresh refresh) has e = has
no_front bytes none (payload.Reset names) has e = has
no_front bytes none (payload.Base state) has e = has

pub other_tag : (tag : ℕ) (rest : List ℕ) → (tag ≡ 1 → ⊥) → (tag ≡ 2 → ⊥) → Spells spelled_payload HasSpelling (1 ∷ tag ∷ rest) None
other_tag tag rest not1 not2 (payload.Define fresh list) has e = not1 cc
other_tag tag rest not1 not2 (payload.Take take) has e = not2 cc
other_tag tag rest not1 not2 (payload.Refresh refresh) has e = has
other_tag tag rest not1 not2 (payload.Reset names) has e = has
other_tag tag rest not1 not2 (payload.Base state) has e = has

-- ---- batches

pub take_none : (rest : List ℕ) → Spells spelled_take IsTake rest None → Spells spelled_payload HasSpelling (1 ∷ 2 ∷ rest) None
take_none rest none (payload.Define fresh list) has e = absurd cc
take_none rest none (payload.Take take) has e = none take has.0 cc
take_none rest none (payload.Refresh refresh) has e = has
take_none rest none (payload.Reset names) has e = has
take_none rest none (payload.Base state) has e = has

pub take_refused : (rest : List ℕ) (take : Take) → IsSpelling spelled_take IsTake rest take → (IsBatch take → ⊥) → Spells spelled_payload HasSpelling (1 ∷ 2 ∷ rest) None
take_refused rest take is not (payload.Define fresh list) has e = absurd cc
take_refused rest take is not (payload.Take other) has e = not (subst IsBatch (is.only other has.0 cc) has.1)
take_refused rest take is not (payload.Refresh refresh) has e = has
take_refused rest take is not (payload.Reset names) has e = has
take_refused rest take is not (payload.Base state) has e = has

only_take : (rest : List ℕ) (take : Take) → IsSpelling spelled_take IsTake rest take → (other : Payload) → HasSpelling other → 1 ∷ 2 ∷ rest ≡ spelled_payload other → other ≡ payload.Take take
only_take rest take is (payload.Define fresh list) has e = absurd cc
only_take rest take is (payload.Take other) has e = ap payload.Take (is.only other has.0 cc)
only_take rest take is (payload.Refresh refresh) has e = absurd has
only_take rest take is (payload.Reset names) has e = absurd has
only_take rest take is (payload.Base state) has e = absurd has

pub take_is : (rest : List ℕ) (take : Take) → IsSpelling spelled_take IsTake rest take → IsBatch take → IsSpelling spelled_payload HasSpelling (1 ∷ 2 ∷ rest) (payload.Take take)
take_is rest take is batch = record { range = (is.range, batch); bytes_are = ap (λ (s : List ℕ). 1 ∷ 2 ∷ s) is.bytes_are; only = only_take rest take is }

-- ---- definitions

pub no_fresh : (bytes : List ℕ) → ((fresh : Bool) (rest : List ℕ) → bytes ≡ fresh_byte fresh ∷ rest → ⊥) → Spells spelled_payload HasSpelling (1 ∷ 1 ∷ bytes) None
no_fresh bytes none (payload.Define fresh list) has e = none fresh (spelled_list spelled_definition list) cc
no_fresh bytes none (payload.Take take) has e = absurd cc
no_fresh bytes none (payload.Refresh refresh) has e = has
no_fresh bytes none (payload.Reset names) has e = has
no_fresh bytes none (payload.Base state) has e = has

same_fresh : (a b : Bool) → fresh_byte a ≡ fresh_byte b → a ≡ b
same_fresh true true e = refl
same_fresh false false e = refl
same_fresh true false e = absurd cc
same_fresh false true e = absurd cc

pub define_none : (fresh : Bool) (rest : List ℕ) → Spells (spelled_list spelled_definition) (IsList IsDefinition) rest None → Spells spelled_payload HasSpelling (1 ∷ 1 ∷ fresh_byte fresh ∷ rest) None
define_none fresh rest none (payload.Define other list) has e = none list has.0 cc
define_none fresh rest none (payload.Take take) has e = absurd cc
define_none fresh rest none (payload.Refresh refresh) has e = has
define_none fresh rest none (payload.Reset names) has e = has
define_none fresh rest none (payload.Base state) has e = has

pub define_refused : (fresh : Bool) (rest : List ℕ) (list : List Definition) → IsSpelling (spelled_list spelled_definition) (IsList IsDefinition) rest list → all_fit list ≡ false → Spells spelled_payload HasSpelling (1 ∷ 1 ∷ fresh_byte fresh ∷ rest) None
define_refused fresh rest list is fails (payload.Define other others) has e =
    let same : others ≡ list = is.only others has.0 cc in
    let fits : all_fit list ≡ true = sym (ap all_fit same) ∙ has.1 in
    absurd cc
define_refused fresh rest list is fails (payload.Take take) has e = absurd cc
define_refused fresh rest list is fails (payload.Refresh refresh) has e = has
define_refused fresh rest list is fails (payload.Reset names) has e = has
define_refused fresh rest list is fails (payload.Base state) has e = has

only_define : (fresh : Bool) (rest : List ℕ) (list : List Definition) → IsSpelling (spelled_list spelled_definition) (IsList IsDefinition) rest list → (other : Payload) → HasSpelling other → 1 ∷ 1 ∷ fresh_byte fresh ∷ rest ≡ spelled_payload other → other ≡ payload.Define fresh list
only_define fresh rest list is (payload.Define other others) has e =
    let same : others ≡ list = is.only others has.0 cc in
    let alike : other ≡ fresh = same_fresh other fresh cc in
    cc
only_define fresh rest list is (payload.Take take) has e = absurd cc
only_define fresh rest list is (payload.Refresh refresh) has e = absurd has
only_define fresh rest list is (payload.Reset names) has e = absurd has
only_define fresh rest list is (payload.Base state) has e = absurd has

pub define_is : (fresh : Bool) (rest : List ℕ) (list : List Definition) → IsSpelling (spelled_list spelled_definition) (IsList IsDefinition) rest list → all_fit list ≡ true → IsSpelling spelled_payload HasSpelling (1 ∷ 1 ∷ fresh_byte fresh ∷ rest) (payload.Define fresh list)
define_is fresh rest list is fits = record { range = (is.range, fits); bytes_are = ap (λ (s : List ℕ). 1 ∷ 1 ∷ fresh_byte fresh ∷ s) is.bytes_are; only = only_define fresh rest list is }

-- ---- payloads

pub one_payload : (a b : Payload) → HasSpelling a → HasSpelling b → spelled_payload a ≡ spelled_payload b → a ≡ b
one_payload (payload.Define fresh list) (payload.Define other others) is js e =
    let same : list ≡ others = whole_law (list_exact definition_exact) list others is.0 js.0 cc in
    let alike : fresh ≡ other = same_fresh fresh other cc in
    cc
one_payload (payload.Take take) (payload.Take other) is js e = ap payload.Take (whole_law take_exact take other is.0 js.0 cc)
one_payload (payload.Define fresh list) (payload.Take take) is js e = absurd cc
one_payload (payload.Take take) (payload.Define fresh list) is js e = absurd cc
one_payload (payload.Refresh refresh) b is js e = absurd is
one_payload (payload.Reset names) b is js e = absurd is
one_payload (payload.Base state) b is js e = absurd is
one_payload a (payload.Refresh refresh) is js e = absurd js
one_payload a (payload.Reset names) is js e = absurd js
one_payload a (payload.Base state) is js e = absurd js
