use Rattle.sm_placed.proofs.Reached.{moves_placed, reached_placed, stands_at}
use Rattle.sm_placed.proofs.InClasses.{nodes_in}
use Rattle.sm_placed.proofs.laws.standing.Goals as goal

pub returns : goal.returns
returns c = record { steps = moves_placed; reached = reached_placed; places = stands_at; nodes = nodes_in }
