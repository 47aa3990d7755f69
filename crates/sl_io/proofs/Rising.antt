-- A count that rises exactly where a call failed.
use Rattle.std.proofs.Common.{◌≡◌, ℕ, arith}
use Rattle.sl_io.specs.Counts.{Rose, SameCounts, raised_if}
use Rattle.sl_io.specs.Fetch.{OnFailed, UnlessFailed, is_failed}
use Rattle.sl_io.specs.Put.{OnPutFailed, OnPutMemory, UnlessPutFailed, is_put_failed}
use Rattle.sl_io.specs.declared.fetch.Fetch.{Fetch}
use Rattle.sl_io.specs.declared.fetch.Fetch.TheVariants.{Bytes, Missing, Long, Failed, Memory}
use Rattle.sl_io.specs.declared.put.Put.{Put}
use Rattle.sl_io.specs.declared.put.Put.TheVariants as put

-- it rose where `fetch` failed
pub rose_at_fetch : (answer : Fetch) (before now : ℕ) → now ≡ raised_if (is_failed answer) before → OnFailed answer (Rose before now)
rose_at_fetch (Bytes bytes) before now e = tt
rose_at_fetch Missing before now e = tt
rose_at_fetch Long before now e = tt
rose_at_fetch Failed before now e = omega arith
rose_at_fetch Memory before now e = tt

-- it rose where `put` failed
pub rose_at_put : (answer : Put) (before now : ℕ) → now ≡ raised_if (is_put_failed answer) before → OnPutFailed answer (Rose before now)
rose_at_put put.Done before now e = tt
rose_at_put put.Failed before now e = omega arith
rose_at_put put.Memory before now e = tt

-- it stood still where they didn't fail
pub same_at_fetch : (answer : Fetch) (before now : ℕ) → now ≡ raised_if (is_failed answer) before → UnlessFailed answer (SameCounts (λ _. before) (λ _. now))
same_at_fetch (Bytes bytes) before now e = λ _. e
same_at_fetch Missing before now e = λ _. e
same_at_fetch Long before now e = λ _. e
same_at_fetch Failed before now e = tt
same_at_fetch Memory before now e = λ _. e

pub same_at_put : (answer : Put) (before now : ℕ) → now ≡ raised_if (is_put_failed answer) before → UnlessPutFailed answer (SameCounts (λ _. before) (λ _. now))
same_at_put put.Done before now e = λ _. e
same_at_put put.Failed before now e = tt
same_at_put put.Memory before now e = λ _. e

-- a fact that holds at every answer of `put` holds at one
pub at_failed : (answer : Put) (P : Type 0) → P → OnPutFailed answer P
at_failed put.Done P p = tt
at_failed put.Failed P p = p
at_failed put.Memory P p = tt

pub at_memory : (answer : Put) (P : Type 0) → P → OnPutMemory answer P
at_memory put.Done P p = tt
at_memory put.Failed P p = tt
at_memory put.Memory P p = p
