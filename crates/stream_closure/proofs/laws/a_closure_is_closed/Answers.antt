use Rattle.stream_closure.proofs.ClosureLemmas.{closure_closed, closure_holds, closure_least}
use Rattle.stream_closure.proofs.laws.a_closure_is_closed.Goals as goal

pub returns : goal.returns
returns c = record {
  closed = closure_closed;
  set = closure_holds;
  least = λ plan edges set places names are closure closed. closure_least names plan edges are closed set places closure;
}
