-- The places of statements that declare datasets, and of those that fill them.
use Rattle.std.proofs.Common.{◌≡◌, inl, inr, ℕ, zero, suc, ◌+◌, Bool, true, false, cond, List, [], ◌∷◌, ◌++◌, Option, Some, None, refl, sym, ap, subst, ◌∙◌, arith}
use Rattle.std.specs.Prelude.{is_some, option_and_then, option_to_list, slice_get}
use Rattle.sql_tree.specs.declared.statement.Statement.{Statement}
use Rattle.statement_checks.specs.Declares.{dataset_name}
use Rattle.statement_checks.specs.Limits.{is_dataset}
use Rattle.name_checks.specs.Edges.{dataset_names}
use Rattle.dataset_checks.specs.Filling.{fillers_from, fills}
use Rattle.plan_check.specs.declared.visits.Visit.{Visit}
use Rattle.plan_check.specs.Visits.{declared_from, declared_places, visits_with}
use Rattle.plan_check.specs.Walks.{name_at}
use Rattle.plan_texts.proofs.Lists.{Among, in_some, no_some}

-- ---- a place of the list of declared ones

-- the statement of this place declares the name that is at the same index among the names
record IsDeclaredFrom (start : ℕ) (statements : List Statement) (index place : ℕ) : Type 0 where
  offset : ℕ
  is_place : place ≡ start + offset
  name : List ℕ
  declares : option_and_then dataset_name (slice_get statements offset) ≡ Some name
  name_is : slice_get (dataset_names statements) index ≡ Some name

declared_by : (start : ℕ) (first : Statement) (more : List Statement) (index place : ℕ) (o : Option (List ℕ)) → dataset_name first ≡ o → ((i : ℕ) → slice_get (declared_from (start + 1) more) i ≡ Some place → IsDeclaredFrom (start + 1) more i place) →
    slice_get (cond (is_some o) (start ∷ declared_from (start + 1) more) (declared_from (start + 1) more)) index ≡ Some place → IsDeclaredFrom start (first ∷ more) index place
declared_by start first more index place None is rest e = let r = rest index e in record {
  offset = suc r.offset;
  is_place = r.is_place ∙ omega arith;
  name = r.name;
  declares = r.declares;
  name_is = ap (λ (o : Option (List ℕ)). slice_get (option_to_list o ++ dataset_names more) index) is ∙ r.name_is;
}
declared_by start first more zero place (Some name) is rest e = record {
  offset = 0;
  is_place = sym (in_some e) ∙ omega arith;
  name = name;
  declares = is;
  name_is = ap (λ (o : Option (List ℕ)). slice_get (option_to_list o ++ dataset_names more) zero) is;
}
declared_by start first more (suc index) place (Some name) is rest e = let r = rest index e in record {
  offset = suc r.offset;
  is_place = r.is_place ∙ omega arith;
  name = r.name;
  declares = r.declares;
  name_is = ap (λ (o : Option (List ℕ)). slice_get (option_to_list o ++ dataset_names more) (suc index)) is ∙ r.name_is;
}

declared_at : (start : ℕ) (statements : List Statement) (index place : ℕ) → slice_get (declared_from start statements) index ≡ Some place → IsDeclaredFrom start statements index place
declared_at start [] index place e = absurd (no_some e)
declared_at start (first ∷ more) index place e = declared_by start first more index place (dataset_name first) refl (λ i. declared_at (start + 1) more i place) e

-- the name at a declared place is at the same index among the names
pub record IsDeclared (statements : List Statement) (index place : ℕ) : Type 0 where
  pub name : List ℕ
  pub declares : name_at statements place ≡ Some name
  pub name_is : slice_get (dataset_names statements) index ≡ Some name

pub declared : (statements : List Statement) (index place : ℕ) → slice_get (declared_places statements) index ≡ Some place → IsDeclared statements index place
declared statements index place e =
    let r = declared_at 0 statements index place e in
    let one : place ≡ r.offset = r.is_place ∙ omega arith in
    record { name = r.name; declares = ap (name_at statements) one ∙ r.declares; name_is = r.name_is }

-- ---- a statement that declares

is_declared_by : (start : ℕ) (first : Statement) (more : List Statement) (offset : ℕ) (statement : Statement) (name : List ℕ) (there : Bool) → is_dataset first ≡ there →
    ((k : ℕ) → slice_get more k ≡ Some statement → Among ((start + 1) + k) (declared_from (start + 1) more)) → slice_get (first ∷ more) offset ≡ Some statement → dataset_name statement ≡ Some name →
    Among (start + offset) (cond there (start ∷ declared_from (start + 1) more) (declared_from (start + 1) more))
is_declared_by start first more zero statement name true is rest e named = inl (omega arith)
is_declared_by start first more zero statement name false is rest e named =
    let one : is_some (dataset_name first) ≡ true = ap (λ (s : Statement). is_some (dataset_name s)) (in_some e) ∙ ap is_some named in
    let no : true ≡ false = sym one ∙ is in
    absurd (cc)
is_declared_by start first more (suc offset) statement name true is rest e named = inr (subst (λ (place : ℕ). Among place (declared_from (start + 1) more)) (omega arith) (rest offset e))
is_declared_by start first more (suc offset) statement name false is rest e named = subst (λ (place : ℕ). Among place (declared_from (start + 1) more)) (omega arith) (rest offset e)

is_declared_from : (start : ℕ) (statements : List Statement) (offset : ℕ) (statement : Statement) (name : List ℕ) → slice_get statements offset ≡ Some statement → dataset_name statement ≡ Some name → Among (start + offset) (declared_from start statements)
is_declared_from start [] offset statement name e named = absurd (no_some e)
is_declared_from start (first ∷ more) offset statement name e named = is_declared_by start first more offset statement name (is_dataset first) refl (λ k at. is_declared_from (start + 1) more k statement name at named) e named

-- its place is a declared one
pub is_declared : (statements : List Statement) (place : ℕ) (statement : Statement) (name : List ℕ) → slice_get statements place ≡ Some statement → dataset_name statement ≡ Some name → Among place (declared_places statements)
is_declared statements place statement name e named = subst (λ (q : ℕ). Among q (declared_places statements)) (omega arith) (is_declared_from 0 statements place statement name e named)

-- ---- the places of flows

-- a statement is there that fills the table
pub record IsFiller (table : List ℕ) (statements : List Statement) (place : ℕ) : Type 0 where
  pub statement : Statement
  pub is_there : slice_get statements place ≡ Some statement
  pub is_flow : fills table statement ≡ true

record IsFillerFrom (table : List ℕ) (start : ℕ) (statements : List Statement) (place : ℕ) : Type 0 where
  offset : ℕ
  is_place : place ≡ start + offset
  filler : IsFiller table statements offset

filler_later : (table : List ℕ) (start : ℕ) (first : Statement) (more : List Statement) (place : ℕ) → IsFillerFrom table (start + 1) more place → IsFillerFrom table start (first ∷ more) place
filler_later table start first more place r =
    record { offset = suc r.offset; is_place = r.is_place ∙ omega arith; filler = record { statement = r.filler.statement; is_there = r.filler.is_there; is_flow = r.filler.is_flow } }

filler_by : (table : List ℕ) (start : ℕ) (first : Statement) (more : List Statement) (place : ℕ) (test : Bool) → fills table first ≡ test → (Among place (fillers_from table (start + 1) more) → IsFillerFrom table (start + 1) more place) →
    Among place (cond test (start ∷ fillers_from table (start + 1) more) (fillers_from table (start + 1) more)) → IsFillerFrom table start (first ∷ more) place
filler_by table start first more place true is rest (inl e) = record { offset = 0; is_place = e ∙ omega arith; filler = record { statement = first; is_there = refl; is_flow = is } }
filler_by table start first more place true is rest (inr m) = filler_later table start first more place (rest m)
filler_by table start first more place false is rest m = filler_later table start first more place (rest m)

filler_at : (table : List ℕ) (start : ℕ) (statements : List Statement) (place : ℕ) → Among place (fillers_from table start statements) → IsFillerFrom table start statements place
filler_at table start [] place m = absurd m
filler_at table start (first ∷ more) place m = filler_by table start first more place (fills table first) refl (filler_at table (start + 1) more place) m

pub filler : (table : List ℕ) (statements : List Statement) (place : ℕ) → Among place (fillers_from table 0 statements) → IsFiller table statements place
filler table statements place m = let r = filler_at table 0 statements place m in subst (IsFiller table statements) (sym (r.is_place ∙ omega arith)) r.filler

fills_by : (table : List ℕ) (start : ℕ) (first : Statement) (more : List Statement) (offset : ℕ) (statement : Statement) (test : Bool) → fills table first ≡ test →
    ((k : ℕ) → slice_get more k ≡ Some statement → Among ((start + 1) + k) (fillers_from table (start + 1) more)) → slice_get (first ∷ more) offset ≡ Some statement → fills table statement ≡ true →
    Among (start + offset) (cond test (start ∷ fillers_from table (start + 1) more) (fillers_from table (start + 1) more))
fills_by table start first more zero statement true is rest e flow = inl (omega arith)
fills_by table start first more zero statement false is rest e flow = let no : true ≡ false = sym (ap (fills table) (in_some e) ∙ flow) ∙ is in absurd (cc)
fills_by table start first more (suc offset) statement true is rest e flow = inr (subst (λ (place : ℕ). Among place (fillers_from table (start + 1) more)) (omega arith) (rest offset e))
fills_by table start first more (suc offset) statement false is rest e flow = subst (λ (place : ℕ). Among place (fillers_from table (start + 1) more)) (omega arith) (rest offset e)

fills_from : (table : List ℕ) (start : ℕ) (statements : List Statement) (offset : ℕ) (statement : Statement) → slice_get statements offset ≡ Some statement → fills table statement ≡ true → Among (start + offset) (fillers_from table start statements)
fills_from table start [] offset statement e flow = absurd (no_some e)
fills_from table start (first ∷ more) offset statement e flow = fills_by table start first more offset statement (fills table first) refl (λ k at. fills_from table (start + 1) more k statement at flow) e flow

-- a statement that fills the table is at one of the places
pub fills_at : (table : List ℕ) (statements : List Statement) (place : ℕ) (statement : Statement) → slice_get statements place ≡ Some statement → fills table statement ≡ true → Among place (fillers_from table 0 statements)
fills_at table statements place statement e flow = subst (λ (q : ℕ). Among q (fillers_from table 0 statements)) (omega arith) (fills_from table 0 statements place statement e flow)

-- ---- visits

-- a visit is to the place and of the level at an index
pub record IsVisitAt (places levels : List ℕ) (visit : Visit) : Type 0 where
  pub index : ℕ
  pub place_is : slice_get places index ≡ Some visit.place
  pub level_is : slice_get levels index ≡ Some visit.level

pub visit_at : (places levels : List ℕ) (visit : Visit) → Among visit (visits_with places levels) → IsVisitAt places levels visit
visit_at [] levels visit m = absurd m
visit_at (place ∷ places) [] visit m = absurd m
visit_at (place ∷ places) (level ∷ levels) visit (inl e) = record { index = 0; place_is = ap (λ (v : Visit). Some v.place) (sym e); level_is = ap (λ (v : Visit). Some v.level) (sym e) }
visit_at (place ∷ places) (level ∷ levels) visit (inr m) = let r = visit_at places levels visit m in record { index = suc r.index; place_is = r.place_is; level_is = r.level_is }
