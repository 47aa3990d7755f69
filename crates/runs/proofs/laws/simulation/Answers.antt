use Rattle.runs.proofs.Simulated.{reached_pair, simulation_refines}
use Rattle.runs.proofs.laws.simulation.Goals as goal

pub returns : goal.returns
returns g c = record { refines = simulation_refines; pairs = reached_pair }
