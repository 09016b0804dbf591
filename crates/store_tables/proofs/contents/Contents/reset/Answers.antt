use Rattle.std.proofs.Common.{◌≡◌, length, sym, ap, subst, ◌∙◌}
use Rattle.state_model.specs.Dataset.{State}
use Rattle.state_model.specs.Follows.{AllHaveVersions}
use Rattle.store_tables.specs.Members.{AreNone, MembersHaveVersions}
use Rattle.store_tables.specs.Parts.{side_by_side}
use Rattle.store_tables.proofs.NameLemmas.{members-have}
use Rattle.store_tables.proofs.contents.Contents.reset.Goals as goal

pub empty_members-requires-clause-limit : goal.empty_members-requires-clause-limit
empty_members-requires-clause-limit c =
    let list = c.self.inside.definitions in
    let parts = c.self.inside.parts.items in
    let have : AllHaveVersions (side_by_side list parts) c.args.names = subst (λ (state : State). AllHaveVersions state c.args.names) (sym c.self.view_is) c.requires in
    rw (c.as_slice-list.ensures, c.as_slice-2.ensures) (members-have c.args.names list parts c.self.invariant.distinct have)
