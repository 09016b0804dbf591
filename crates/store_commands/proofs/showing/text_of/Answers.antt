use Rattle.std.proofs.Common.{◌≡◌, None, Some, find, option_map, sym, ◌∙◌, ap}
use Rattle.state_model.specs.Dataset.{dataset_of, definition_of, is_defined}
use Rattle.pair_store.specs.Store.{store_state}
use Rattle.store_commands.proofs.ShowLemmas.{defined_as, err_found, none_found, ok_found}
use Rattle.store_commands.proofs.showing.text_of.Goals as goal

pub returns-in_default-clause-refused : goal.returns-in_default-clause-refused
returns-in_default-clause-refused g c =
    let name = c.args.name.now in
    let state = store_state c.args.store.now in
    let list = c.as_slice.ensures ∙ c.definitions.ensures in
    let none : option_map definition_of (dataset_of state name) ≡ None = sym (c.in_default.ensures ∙ ap (find (is_defined name)) list ∙ defined_as name state) in
    none_found name c.args.version (dataset_of state name) c.unknown.result none c.unknown.ensures

pub returns-clause-text : goal.returns-clause-text
returns-clause-text g c =
    let name = c.args.name.now in
    let state = store_state c.args.store.now in
    let list = c.as_slice.ensures ∙ c.definitions.ensures in
    let definition = c.in-Some.definition.now in
    let table = c.in-Some-table.table.now in
    let defined : option_map definition_of (dataset_of state name) ≡ Some definition = sym (c.in-Some.ensures ∙ ap (find (is_defined name)) list ∙ defined_as name state) in
    ok_found name c.args.version c.text_at.result (λ text. text.items) (dataset_of state name) definition table c.version_or_last.result defined (sym c.in-Some-table.ensures) c.version_or_last.ensures c.text_at.ensures.kept c.text_at.ensures.text

pub returns-clause-refused : goal.returns-clause-refused
returns-clause-refused g c =
    let name = c.args.name.now in
    let state = store_state c.args.store.now in
    let list = c.as_slice.ensures ∙ c.definitions.ensures in
    let definition = c.in-Some.definition.now in
    let table = c.in-Some-table.table.now in
    let defined : option_map definition_of (dataset_of state name) ≡ Some definition = sym (c.in-Some.ensures ∙ ap (find (is_defined name)) list ∙ defined_as name state) in
    err_found name c.args.version c.text_at.result (dataset_of state name) definition table c.version_or_last.result defined (sym c.in-Some-table.ensures) c.version_or_last.ensures c.text_at.ensures.refused
