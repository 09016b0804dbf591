use Rattle.commit_trails.proofs.StintLemmas.{loaded_whole, next_state, stint_ours}
use Rattle.commit_trails.proofs.laws.a_stint_leaves_states.Goals as goal

pub returns : goal.returns
returns g c = record {
  whole = λ state acked old new. loaded_whole g.D.Disk.tells_moments state acked (g.D.Disk.state old) (g.D.Disk.state new);
  next = λ state next acked old new. next_state g.D.Disk.tells_moments state next acked (g.D.Disk.state old) (g.D.Disk.state new);
  ours = λ stint old new ours trail. stint_ours g.D.Disk.tells_moments (g.D.Disk.state old) (g.D.Disk.state new) stint ours trail;
}
