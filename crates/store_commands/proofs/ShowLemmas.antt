-- What is shown of a dataset.
use Rattle.std.proofs.Common.{◌≡◌, ◌⊎◌, inl, inr, ℕ, List, [], ◌∷◌, Bool, true, false, Option, Some, None, Result, Ok, Err, cond, find, option_map, IfOk, IfErr, OnOk, refl, sym, ◌∙◌, ap, subst}
use Rattle.table_versions.specs.Versions.{IsKept, Versions, content_at, now_of}
use Rattle.commit_payloads.specs.declared.definition.Definition.{Definition}
use Rattle.state_model.specs.Dataset.{Dataset, State, dataset_of, definition_of, definitions_of, is_defined, is_named}
use Rattle.store_tables.specs.Parts.{table_of}
use Rattle.report_text.specs.Rows.{print_table}
use Rattle.message_text.specs.declared.refusal.Refusal.{Refusal}
use Rattle.message_text.specs.declared.refusal.Refusal.TheVariants.{Memory, NoVersion, UnknownTable}
use Rattle.command_ends.specs.Loads.{BreaksOff, HasTold}
use Rattle.store_commands.specs.Commands.{ShowsIn, version_asked}
use Rattle.store_commands.specs.Folding.{ending_over}
use Rattle.store_commands.specs.Shown.{HasNoText, IsTextOf}

-- ---- the dataset of a name

defined_by : (here : Bool) (dataset : Dataset) (one : Option Definition) (other : Option Dataset) → one ≡ option_map definition_of other
    → cond here (Some dataset.definition) one ≡ option_map definition_of (cond here (Some dataset) other)
defined_by true dataset one other later = refl
defined_by false dataset one other later = later

-- the definition of a name is that of the dataset of the name
pub defined_as : (name : List ℕ) (state : State) → find (is_defined name) (definitions_of state) ≡ option_map definition_of (dataset_of state name)
defined_as name [] = refl
defined_as name (dataset ∷ state) = defined_by (is_named name dataset) dataset (find (is_defined name) (definitions_of state)) (dataset_of state name) (defined_as name state)

module _ (name : List ℕ) (version : Option ℕ) where
  pub none_found : (found : Option Dataset) (end : Refusal) → option_map definition_of found ≡ None → (end ≡ Memory) ⊎ (end ≡ UnknownTable name) → HasNoText name version found end
  none_found None end none is = is
  none_found (Some dataset) end none is = absurd (cc none)

  pub none_kept : (found : Option Dataset) (end : Refusal) → option_map table_of found ≡ None → (end ≡ Memory) ⊎ (end ≡ UnknownTable name) → HasNoText name version found end
  none_kept None end none is = is
  none_kept (Some dataset) end none is = absurd (cc none)

  pub text_found : (found : Option Dataset) (definition : Definition) (table : Versions) (asked : ℕ) (text : List ℕ)
      → option_map definition_of found ≡ Some definition → option_map table_of found ≡ Some table → ((dataset : Dataset) → dataset.table ≡ table → asked ≡ version_asked version dataset)
      → IsKept table asked → text ≡ print_table definition.columns (content_at table asked) → IsTextOf version found text
  text_found None definition table asked text defined kept by there is = absurd (cc defined)
  text_found (Some dataset) definition table asked text defined kept by there is =
      let same_definition : dataset.definition ≡ definition = cc defined in
      let same_table : dataset.table ≡ table = cc kept in
      let same_version = by dataset same_table in (
        subst (IsKept dataset.table) same_version (subst (λ (t : Versions). IsKept t asked) (sym same_table) there),
        is ∙ ap (λ (d : Definition). print_table d.columns (content_at table asked)) (sym same_definition) ∙ ap (λ (t : Versions). print_table dataset.definition.columns (content_at t asked)) (sym same_table)
            ∙ ap (λ (v : ℕ). print_table dataset.definition.columns (content_at dataset.table v)) same_version,
      )

  pub text_lacking : (found : Option Dataset) (definition : Definition) (table : Versions) (asked : ℕ) (end : Refusal)
      → option_map definition_of found ≡ Some definition → option_map table_of found ≡ Some table → ((dataset : Dataset) → dataset.table ≡ table → asked ≡ version_asked version dataset)
      → (end ≡ Memory) ⊎ ((IsKept table asked → ⊥) × (end ≡ NoVersion definition.name asked table.base (now_of table))) → HasNoText name version found end
  text_lacking None definition table asked end defined kept by is = absurd (cc defined)
  text_lacking (Some dataset) definition table asked end defined kept by (inl memory) = inl memory
  text_lacking (Some dataset) definition table asked end defined kept by (inr (lacking, is)) =
      let same_definition : dataset.definition ≡ definition = cc defined in
      let same_table : dataset.table ≡ table = cc kept in
      let same_version = by dataset same_table in
      inr (
        λ there. lacking (subst (λ (t : Versions). IsKept t asked) same_table (subst (IsKept dataset.table) (sym same_version) there)),
        is ∙ ap (λ (d : Definition). NoVersion d.name asked table.base (now_of table)) (sym same_definition) ∙ ap (λ (t : Versions). NoVersion dataset.definition.name asked t.base (now_of t)) (sym same_table)
            ∙ ap (λ (v : ℕ). NoVersion dataset.definition.name v dataset.table.base (now_of dataset.table)) same_version,
      )

  -- ---- the answer of a read

  pub ok_found : {A B : Type 0} (result : Result A B) (items : A → List ℕ) (found : Option Dataset) (definition : Definition) (table : Versions) (asked : ℕ)
      → option_map definition_of found ≡ Some definition → option_map table_of found ≡ Some table → ((dataset : Dataset) → dataset.table ≡ table → asked ≡ version_asked version dataset)
      → OnOk result (IsKept table asked) → IfOk result (λ text. items text ≡ print_table definition.columns (content_at table asked)) → IfOk result (λ text. IsTextOf version found (items text))
  ok_found (Ok text) items found definition table asked defined kept by there is = text_found found definition table asked (items text) defined kept by there is
  ok_found (Err end) items found definition table asked defined kept by there is = tt

  pub err_found : {A : Type 0} (result : Result A Refusal) (found : Option Dataset) (definition : Definition) (table : Versions) (asked : ℕ)
      → option_map definition_of found ≡ Some definition → option_map table_of found ≡ Some table → ((dataset : Dataset) → dataset.table ≡ table → asked ≡ version_asked version dataset)
      → IfErr result (λ end. (end ≡ Memory) ⊎ ((IsKept table asked → ⊥) × (end ≡ NoVersion definition.name asked table.base (now_of table)))) → IfErr result (HasNoText name version found)
  err_found (Ok text) found definition table asked defined kept by is = tt
  err_found (Err end) found definition table asked defined kept by is = text_lacking found definition table asked end defined kept by is

  -- ---- how it ends

  pub shows_text : (found : Option Dataset) (state : State) (text : List ℕ) (answer : Result Bool Refusal) → IsTextOf version found text → HasTold answer → BreaksOff Memory [] (ending_over answer state [] [] text) ⊎ ShowsIn name version found (ending_over answer state [] [] text)
  shows_text None state text answer is told = absurd is
  shows_text (Some dataset) state text answer is told = inr (inr (record { kept = is.0; tells = record { told = told; acked_is = refl; tried_is = refl; text_is = is.1 } }))

  breaks : (state : State) (end real : Refusal) → end ≡ real → BreaksOff real [] (ending_over (Err end) state [] [] [])
  breaks state end real is = record { answer_is = ap Err is; acked_is = refl; tried_is = refl; text_is = refl }

  pub shows_none : (found : Option Dataset) (state : State) (end : Refusal) → HasNoText name version found end → BreaksOff Memory [] (ending_over (Err end) state [] [] []) ⊎ ShowsIn name version found (ending_over (Err end) state [] [] [])
  shows_none found state end (inl memory) = inl (breaks state end Memory memory)
  shows_none None state end (inr is) = inr (breaks state end (UnknownTable name) is)
  shows_none (Some dataset) state end (inr is) = inr (inl (record { lacking = is.0; breaks = breaks state end _ is.1 }))
