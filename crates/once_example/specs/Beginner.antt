-- A thread that waits as soon as it begins, and above makes one move before that.
use Rattle.std.specs.Prelude.{ℕ, zero, suc, [], false, nat_eq}
use Rattle.runs.specs.System.{Next, Goes, Waits, Ended, System}

-- 0: thread 1 has yet to begin thread 2. 1: it has, and thread 2 waits for it, for ever
abbrev pub low_next : ℕ → ℕ → Next ℕ
low_next zero (suc zero) = Goes 1
low_next zero t = Ended
low_next (suc x) (suc (suc zero)) = Waits
low_next (suc x) t = Ended

-- 1: thread 2 is about to begin the node at which it waits. 2: it waits
abbrev pub up_next : ℕ → ℕ → Next ℕ
up_next zero (suc zero) = Goes 1
up_next zero t = Ended
up_next (suc zero) (suc (suc zero)) = Goes 2
up_next (suc zero) t = Ended
up_next (suc (suc x)) (suc (suc zero)) = Waits
up_next (suc (suc x)) t = Ended

-- how many threads there are
abbrev pub many : ℕ → ℕ
many zero = 1
many (suc x) = 2

-- the system whose threads do this next
abbrev pub with_next : (ℕ → ℕ → Next ℕ) → System (Unit {0}) (Unit {0}) ℕ
with_next next = record {
  first = 0;
  next = next;
  inits = λ x t. 0;
  threads = many;
  trace = λ x. [];
  place = λ x t. tt;
  blocks = λ x t u. nat_eq u 1;
  opens = λ x u t. false;
}
