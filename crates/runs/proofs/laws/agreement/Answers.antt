use Rattle.runs.proofs.Agreeing.{agree_by_thread, agree_plainly, least_cycle_up}
use Rattle.runs.proofs.Composes.{all_wait_above}
use Rattle.runs.proofs.laws.agreement.Goals as goal

pub returns : goal.returns
returns g c = record { plainly = agree_plainly; by_thread = agree_by_thread; all_wait = all_wait_above; least_cycle = least_cycle_up }
