use Rattle.std.proofs.Common.{◌≡◌, ◌↔◌, ℕ, ◌∙◌, length, sym, subst, arith}
use Rattle.std.proofs.lemmas.Bool.{OnFalse_at}
use Rattle.std.proofs.lemmas.Result.{IfOk-weaker}
use Rattle.std.specs.List.{Contains}
use Rattle.graph_check.specs.Graphs.{IsInClosure}
use Rattle.graph_check.specs.Marks.{IsMarked, LeadsToMarked, MarksReaders}
use Rattle.graph_check.proofs.MarkLemmas.{AreOfClosure, closure_more, closure_all, written}
use Rattle.graph_check.proofs.marking.closure.Goals as goal

pub rounds-preserved : goal.rounds-preserved
rounds-preserved c =
    let e = c.as_mut_slice.ensures.value in
    let kept : (node : ℕ) → IsMarked c.rounds.marks.items node → IsMarked c.mark_readers.new.marks node = subst (λ xs. (node : ℕ) → IsMarked xs node → IsMarked c.mark_readers.new.marks node) e c.mark_readers.ensures.kept in
    let leads : (node : ℕ) → IsMarked c.mark_readers.new.marks node → LeadsToMarked c.args.edges.now c.rounds.marks.items node = subst (λ xs. (node : ℕ) → IsMarked c.mark_readers.new.marks node → LeadsToMarked c.args.edges.now xs node) e c.mark_readers.ensures.leads in
    let more : AreOfClosure c.args.count c.args.edges.now c.args.set.now c.mark_readers.new.marks = closure_more c.args.count c.args.edges.now c.args.set.now c.rounds.marks.items c.mark_readers.new.marks c.mark_readers.ensures.complete kept leads c.rounds.invariant in
    let size : c.rounds.marks.len ≡ length c.mark_readers.new.marks = omega (arith, c.rounds.marks.ok.0, c.mark_readers.ensures.complete, c.rounds.invariant.complete) in
    subst (λ xs. AreOfClosure c.args.count c.args.edges.now c.args.set.now xs) (sym (written c.rounds.marks.items c.mark_readers.new.marks c.rounds.marks.len size)) more

pub returns-then-not-mark_readers-clause-exact : goal.returns-then-not-mark_readers-clause-exact
returns-then-not-mark_readers-clause-exact c =
    let e = c.as_mut_slice.ensures.value in
    let kept : (node : ℕ) → IsMarked c.rounds.marks.items node → IsMarked c.mark_readers.new.marks node = subst (λ xs. (node : ℕ) → IsMarked xs node → IsMarked c.mark_readers.new.marks node) e c.mark_readers.ensures.kept in
    let leads : (node : ℕ) → IsMarked c.mark_readers.new.marks node → LeadsToMarked c.args.edges.now c.rounds.marks.items node = subst (λ xs. (node : ℕ) → IsMarked c.mark_readers.new.marks node → LeadsToMarked c.args.edges.now xs node) e c.mark_readers.ensures.leads in
    let more : AreOfClosure c.args.count c.args.edges.now c.args.set.now c.mark_readers.new.marks = closure_more c.args.count c.args.edges.now c.args.set.now c.rounds.marks.items c.mark_readers.new.marks c.mark_readers.ensures.complete kept leads c.rounds.invariant in
    let size : c.rounds.marks.len ≡ length c.mark_readers.new.marks = omega (arith, c.rounds.marks.ok.0, c.mark_readers.ensures.complete, c.rounds.invariant.complete) in
    let whole : c.as_slice.result.now ≡ c.mark_readers.new.marks = c.as_slice.ensures.value ∙ written c.rounds.marks.items c.mark_readers.new.marks c.rounds.marks.len size in
    let closed : MarksReaders c.args.edges.now c.mark_readers.new.marks = OnFalse_at c.if-not-mark_readers.true c.mark_readers.ensures.closed in
    IfOk-weaker c.places_of.result (λ v. (node : ℕ) → Contains v node ↔ IsMarked c.as_slice.result.now node) (λ v. (node : ℕ) → Contains v node ↔ IsInClosure c.args.edges.now c.args.set.now node) (λ places all. closure_all c.args.count c.args.edges.now c.args.set.now c.mark_readers.new.marks places closed more (λ node. subst (λ xs. Contains places node ↔ IsMarked xs node) whole (all node))) c.places_of.ensures.marked
