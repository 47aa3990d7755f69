-- Three threads that count, wait for one another, and break down.
use Rattle.std.specs.Prelude.{ℕ, zero, suc, [], false}
use Rattle.runs.specs.System.{Next, Goes, Waits, Ended, Stuck, System}
use Rattle.turns_example.specs.declared.task.Task.{Task}
use Rattle.turns_example.specs.declared.task.Task.TheVariants.{Count, Await, Breaks}
use Rattle.turns_example.specs.declared.task.Tasks.{Tasks}

-- what thread t has to do; others have nothing to do
abbrev pub task_of : Tasks → ℕ → Task
task_of tasks zero = Count 0
task_of tasks (suc zero) = tasks.one
task_of tasks (suc (suc zero)) = tasks.two
task_of tasks (suc (suc (suc zero))) = tasks.three
task_of tasks (suc (suc (suc (suc t)))) = Count 0

-- the tasks with another for thread t
abbrev pub with_task : Tasks → ℕ → Task → Tasks
with_task tasks zero task = tasks
with_task tasks (suc zero) task = record tasks { one = task }
with_task tasks (suc (suc zero)) task = record tasks { two = task }
with_task tasks (suc (suc (suc zero))) task = record tasks { three = task }
with_task tasks (suc (suc (suc (suc t)))) task = tasks

-- a thread that waits goes on where the other has no moves left
abbrev pub goes : Tasks → ℕ → Task → Next Tasks
goes tasks t (Count zero) = Goes (with_task tasks t (Count 0))
goes tasks t (Count (suc left)) = Waits
goes tasks t (Await u) = Waits
goes tasks t (Breaks left) = Waits

-- what thread t does next
abbrev pub does : Tasks → ℕ → Task → Next Tasks
does tasks t (Count zero) = Ended
does tasks t (Count (suc left)) = Goes (with_task tasks t (Count left))
does tasks t (Await u) = goes tasks t (task_of tasks u)
does tasks t (Breaks zero) = Stuck
does tasks t (Breaks (suc left)) = Goes (with_task tasks t (Breaks left))

-- the system of three threads with these tasks
abbrev pub trio : Tasks → System (Unit {0}) (Unit {0}) Tasks
trio first = record {
  first = first;
  next = λ x t. does x t (task_of x t);
  inits = λ x t. 0;
  threads = λ x. 3;
  trace = λ x. [];
  place = λ x t. tt;
  blocks = λ x t u. false;
  opens = λ x u t. false;
}
