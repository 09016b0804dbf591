use Rattle.std.proofs.Common.{◌≡◌, ◌++◌, ◌∷◌, ◌<◌, [], ℕ, List, drop, sym, subst}
use Rattle.std.specs.List.{All}
use Rattle.std.proofs.lemmas.List.Elements.{All-drop, All-push}
use Rattle.graph_check.proofs.CycleLemmas.{cycle_found}
use Rattle.graph_check.proofs.cycle.path_from.Goals as goal

pub returns-clause-path : goal.returns-clause-path
returns-clause-path c =
    let made : c.from_vec.result ≡ drop c.args.place c.args.trail.now ++ c.args.node ∷ [] = cc (c.from_vec.ensures, c.in_ok-push.ensures.items, c.in_ok-path.ensures.items, c.split_at.ensures.back) in
    cycle_found c.args.edges.now c.args.trail.now c.from_vec.result c.args.place c.args.node c.requires.place c.requires.again c.requires.trail c.requires.distinct made

pub returns-clause-within : goal.returns-clause-within
returns-clause-within c =
    let made : c.from_vec.result ≡ drop c.args.place c.args.trail.now ++ c.args.node ∷ [] = cc (c.from_vec.ensures, c.in_ok-push.ensures.items, c.in_ok-path.ensures.items, c.split_at.ensures.back) in
    subst (λ (xs : List ℕ). All (λ x. x < c.args.count) xs) (sym made) (All-push (λ x. x < c.args.count) (drop c.args.place c.args.trail.now) c.args.node (All-drop (λ x. x < c.args.count) c.args.place c.args.trail.now c.requires.below) c.requires.inside)
