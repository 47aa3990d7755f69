use Rattle.lz_proto.proofs.Standing.{open_stays}
use Rattle.lz_proto.proofs.CanGo.{runner_goes, opener_goes, opener_opens, sleeper_goes}
use Rattle.lz_proto.proofs.laws.freeing.Goals as goal

pub returns-clause-runs : goal.returns-clause-runs
returns-clause-runs c = λ p kept u cell is. runner_goes p kept.0 kept.1 u cell is

pub returns-clause-opens : goal.returns-clause-opens
returns-clause-opens c = opener_goes

pub returns-clause-opened : goal.returns-clause-opened
returns-clause-opened c = λ p q u latch r at moved. opener_opens p u q latch r at moved

pub returns-clause-stays : goal.returns-clause-stays
returns-clause-stays c = λ p q who act moved latch made is. open_stays p who act q moved latch made is

pub returns-clause-wakes : goal.returns-clause-wakes
returns-clause-wakes c = sleeper_goes
