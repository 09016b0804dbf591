use Rattle.std.proofs.Common.{◌≡◌, ◌==◌, true, inl, refl, subst}
use Rattle.std.specs.List.{list_any}
use Rattle.disk_model.proofs.failing.Failing.turn_if.Goals as goal

pub returns-then-contains-clause-fails : goal.returns-then-contains-clause-fails
returns-then-contains-clause-fails c =
    let listed : list_any (λ n. n == c.saturating_add-self.result) c.args.self.now.calls.items ≡ true = cc in
    (λ _. inl (subst (λ number. list_any (λ n. n == number) c.args.self.now.calls.items ≡ true) c.saturating_add-self.ensures listed), λ _. refl)
