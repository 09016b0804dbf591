use Rattle.std.proofs.Common.{◌≡◌, true, length, sym, ap, subst, ◌∙◌}
use Rattle.state_model.specs.Dataset.{definitions_of}
use Rattle.state_model.specs.Follows.{are_distinct}
use Rattle.state_model.specs.Saved as saved
use Rattle.store_tables.proofs.BaseLemmas.{from-long, from-sides, saved-definitions, saved-tables}
use Rattle.store_tables.proofs.contents.Contents.begin_saved.Goals as goal

pub saved_parts-requires : goal.saved_parts-requires
saved_parts-requires c =
    saved-tables (saved.read_back c.args.state) c.args.state.list c.args.state.states c.requires.fits.store.each c.requires.form.one_each c.requires.form.kept

pub set-undo-requires : goal.set-undo-requires
set-undo-requires c =
    let list = c.args.state.list in
    let states = c.args.state.states in
    let parts = c.in_ok-parts.parts.items in
    record {
      long = sym (from-long states parts c.in_ok-parts.ensures ∙ c.requires.form.one_each);
      distinct = subst (λ definitions. are_distinct definitions ≡ true) (saved-definitions list states c.requires.form.one_each) c.requires.fits.store.distinct;
    }

pub returns-clause-ok : goal.returns-clause-ok
returns-clause-ok c = c.set-undo.ensures.now ∙ from-sides c.args.state.list c.args.state.states c.in_ok-parts.parts.items c.in_ok-parts.ensures
