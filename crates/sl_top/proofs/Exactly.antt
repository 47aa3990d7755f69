-- The status of a call of `run FILE` where the shelf tells its files.
use Rattle.std.proofs.Common.{◌≡◌, ◌∙◌, ℕ, ◌<◌, ◌≤◌, List, [], ◌∷◌, length, codes, ap, IsTrue, Option, None, Some, inl, inr, refl, sym, subst, arith, encode_utf8_all, IsSomeAnd}
use Rattle.runs.specs.declared.Turn.{Turn}
use Rattle.sl_top.specs.declared.outcome.Outcome.{Outcome}
use Rattle.sl_top.specs.declared.outcome.Outcome.TheVariants.{Printed, NotBuilt, Refused, ShelfFault, OutFault, Usage, Memory, Missing, Long}
use Rattle.sl_io.specs.Files.{SameFiles}
use Rattle.sl_top.specs.declared.finished.Finished.{Finished}
use Rattle.sl_top.specs.declared.source_file.TheConstants.{SOURCE_LIMIT}
use Rattle.sl_top.specs.Outcome.{status_of, Told, schedule_at, Yields}
use Rattle.sl_top.specs.Listing.{IsListing}
use Rattle.sl_top.specs.Outside.{ShelfSeen, SinkSeen}
use Rattle.sl_top.specs.Fetched.{IsSource, IsUnread}
use Rattle.sl_top.specs.Printing.{IsNotBuilt, PrintsFile}
use Rattle.sl_top.specs.Run.{Cause, EndsPrinting, EndsRun, Runs, IsDue, missing, long, not_built, printed}

-- why a file wasn't had is why it isn't run
pub unread_cause : (outcome : Outcome) (shelf : ShelfSeen) (name : List ℕ) → IsUnread outcome shelf name → Cause outcome shelf name
unread_cause Missing shelf name u = u
unread_cause Long shelf name u = u
unread_cause ShelfFault shelf name u = u
unread_cause Memory shelf name u = u
unread_cause NotBuilt shelf name u = absurd u
unread_cause (Refused r) shelf name u = absurd u
unread_cause Printed shelf name u = absurd u
unread_cause OutFault shelf name u = absurd u
unread_cause Usage shelf name u = absurd u

-- what is told of an outcome yields its status
told_yields : (outcome : Outcome) (name : List ℕ) (err : SinkSeen) (status : ℕ) → Told outcome name err status → Yields status (status_of outcome)
told_yields outcome name err status (inl whole) = inl whole.1
told_yields outcome name err status (inr (has, inl broken)) = inr (inl broken.1)
told_yields outcome name err status (inr (has, inr cut)) = inr (inr cut.1)

-- one status yields to another, and that one to the one that is due
yields_on : (status between due : ℕ) → Yields status between → Yields between due → Yields status due
yields_on status between due (inl e) y = rw e y
yields_on status between due (inr e) y = inr e

-- a name has one file
pub one_file : (file : Option (List ℕ)) (one other : List ℕ) → Some one ≡ file → file ≡ Some other → one ≡ other
one_file file one other e f = cc

pub no_file : (file : Option (List ℕ)) (one : List ℕ) → None ≡ file → file ≡ Some one → ⊥
no_file file one e f = cc

-- the file isn't longer than the limit, and longer
pub too_long : (file : Option (List ℕ)) (bytes : List ℕ) → Some bytes ≡ file → length bytes ≤ SOURCE_LIMIT → IsSomeAnd file (λ found. SOURCE_LIMIT < length found) → ⊥
too_long file bytes is short more = let k : IsSomeAnd (Some bytes) (λ found. SOURCE_LIMIT < length found) = subst (λ (o : Option (List ℕ)). IsSomeAnd o (λ found. SOURCE_LIMIT < length found)) (sym is) more in omega arith

module _ (shelf : ShelfSeen) (name : List ℕ) (tells : IsTrue shelf.tells) where
  -- the bytes that the shelf gave are those of the file
  given : (bytes source : List ℕ) → Some bytes ≡ shelf.file (encode_utf8_all name) → IsSource shelf.tells shelf.file name source → source ≡ bytes
  given bytes source is from = sym (one_file (shelf.file (encode_utf8_all name)) bytes source is (from.told tells))

  not_given : (source : List ℕ) → None ≡ shelf.file (encode_utf8_all name) → IsSource shelf.tells shelf.file name source → ⊥
  not_given source is from = no_file (shelf.file (encode_utf8_all name)) source is (from.told tells)

  given_short : (bytes source : List ℕ) → Some bytes ≡ shelf.file (encode_utf8_all name) → SOURCE_LIMIT < length bytes → IsSource shelf.tells shelf.file name source → ⊥
  given_short bytes source is more from =
      let l : length bytes ≤ SOURCE_LIMIT = subst (λ xs. length xs ≤ SOURCE_LIMIT) (given bytes source is from) from.short in omega arith

  -- the file isn't run
  missing_unrun : (outcome : Outcome) → None ≡ shelf.file (encode_utf8_all name) → Cause outcome shelf name → Yields (status_of outcome) 8
  missing_unrun Missing is c = inl refl
  missing_unrun Long is c = inl refl
  missing_unrun ShelfFault is c = inr (inl refl)
  missing_unrun NotBuilt is c = let b = c.1 in absurd (not_given b.0 is b.1)
  missing_unrun Memory is c = inr (inr refl)
  missing_unrun (Refused r) is c = absurd c
  missing_unrun Printed is c = absurd c
  missing_unrun OutFault is c = absurd c
  missing_unrun Usage is c = absurd c

  long_unrun : (outcome : Outcome) (bytes : List ℕ) → Some bytes ≡ shelf.file (encode_utf8_all name) → SOURCE_LIMIT < length bytes → Cause outcome shelf name → Yields (status_of outcome) 8
  long_unrun Missing bytes is more c = inl refl
  long_unrun Long bytes is more c = inl refl
  long_unrun ShelfFault bytes is more c = inr (inl refl)
  long_unrun NotBuilt bytes is more c = let b = c.1 in absurd (given_short bytes b.0 is more b.1)
  long_unrun Memory bytes is more c = inr (inr refl)
  long_unrun (Refused r) bytes is more c = absurd c
  long_unrun Printed bytes is more c = absurd c
  long_unrun OutFault bytes is more c = absurd c
  long_unrun Usage bytes is more c = absurd c

  not_built_unrun : (outcome : Outcome) (bytes : List ℕ) → Some bytes ≡ shelf.file (encode_utf8_all name) → length bytes ≤ SOURCE_LIMIT → Cause outcome shelf name → Yields (status_of outcome) 4
  not_built_unrun Missing bytes is short c = let e = c.1 tells in absurd cc
  not_built_unrun Long bytes is short c = absurd (too_long (shelf.file (encode_utf8_all name)) bytes is short (c.1 tells))
  not_built_unrun ShelfFault bytes is short c = inr (inl refl)
  not_built_unrun NotBuilt bytes is short c = inl refl
  not_built_unrun Memory bytes is short c = inr (inr refl)
  not_built_unrun (Refused r) bytes is short c = absurd c
  not_built_unrun Printed bytes is short c = absurd c
  not_built_unrun OutFault bytes is short c = absurd c
  not_built_unrun Usage bytes is short c = absurd c

  printed_unrun : (outcome : Outcome) (bytes : List ℕ) → Some bytes ≡ shelf.file (encode_utf8_all name) → length bytes ≤ SOURCE_LIMIT → (IsNotBuilt bytes → ⊥) → Cause outcome shelf name → Yields (status_of outcome) 0
  printed_unrun Missing bytes is short built c = let e = c.1 tells in absurd cc
  printed_unrun Long bytes is short built c = absurd (too_long (shelf.file (encode_utf8_all name)) bytes is short (c.1 tells))
  printed_unrun ShelfFault bytes is short built c = inr (inl refl)
  printed_unrun NotBuilt bytes is short built c = let b = c.1 in absurd (built (subst IsNotBuilt (given bytes b.0 is b.1) b.2))
  printed_unrun Memory bytes is short built c = inr (inr refl)
  printed_unrun (Refused r) bytes is short built c = absurd c
  printed_unrun Printed bytes is short built c = absurd c
  printed_unrun OutFault bytes is short built c = absurd c
  printed_unrun Usage bytes is short built c = absurd c

  unrun_yields : (outcome : Outcome) {found : Option (List ℕ)} {due : ℕ} → Cause outcome shelf name → IsDue found due → found ≡ shelf.file (encode_utf8_all name) → Yields (status_of outcome) due
  unrun_yields outcome c missing is = missing_unrun outcome is c
  unrun_yields outcome c (long {bytes = bytes} more) is = long_unrun outcome bytes is more c
  unrun_yields outcome c (not_built {bytes = bytes} short none) is = not_built_unrun outcome bytes is short c
  unrun_yields outcome c (printed {bytes = bytes} {chains = chains} short listing) is = printed_unrun outcome bytes is short (λ none. none chains listing) c

  -- the file is run
  printed_run : (outcome : Outcome) (out : SinkSeen) (text : List ℕ) → EndsPrinting outcome out text → Yields (status_of outcome) 0
  printed_run Printed out text e = inl refl
  printed_run OutFault out text e = inr (inl refl)
  printed_run Memory out text e = inr (inr refl)
  printed_run NotBuilt out text e = absurd e
  printed_run (Refused r) out text e = absurd e
  printed_run ShelfFault out text e = absurd e
  printed_run Usage out text e = absurd e
  printed_run Missing out text e = absurd e
  printed_run Long out text e = absurd e

  run_yields : (outcome : Outcome) (out : SinkSeen) {found : Option (List ℕ)} {due : ℕ} (text : List ℕ) (steps : ℕ) → PrintsFile shelf.tells shelf.file name text steps
      → EndsPrinting outcome out text → IsDue found due → found ≡ shelf.file (encode_utf8_all name) → Yields (status_of outcome) due
  run_yields outcome out text steps prints e missing is = absurd (not_given prints.bytes is prints.source)
  run_yields outcome out text steps prints e (long {bytes = bytes} more) is = absurd (given_short bytes prints.bytes is more prints.source)
  run_yields outcome out text steps prints e (not_built {bytes = bytes} short none) is =
      absurd (none prints.prints.chains (subst (λ b. IsListing b prints.prints.chains) (given bytes prints.bytes is prints.source) prints.prints.listing))
  run_yields outcome out text steps prints e (printed short listing) is = printed_run outcome out text e

  ends_yields : (outcome : Outcome) (out : SinkSeen) (schedule : List Turn) (due : ℕ) → EndsRun outcome name shelf out schedule → IsDue (shelf.file (encode_utf8_all name)) due → Yields (status_of outcome) due
  ends_yields outcome out schedule due (inl unrun) d = unrun_yields outcome unrun.cause d refl
  ends_yields outcome out schedule due (inr run) d = run_yields outcome out run.text run.steps run.prints run.printed d refl

-- the file gives the status
pub exactly_due : (name : List ℕ) (shelf : ShelfSeen) (out err : SinkSeen) (outcome : Outcome) (schedule : List Turn) (status : ℕ) → EndsRun outcome name shelf out schedule
    → Told outcome (encode_utf8_all name) err status → IsTrue shelf.tells → (due : ℕ) → IsDue (shelf.file (encode_utf8_all name)) due → Yields status due
exactly_due name shelf out err outcome schedule status ends told tells due d =
    yields_on status (status_of outcome) due (told_yields outcome (encode_utf8_all name) err status told) (ends_yields shelf name tells outcome out schedule due ends d)

-- a call that ran the file of a name
pub runs_of : (name text : List ℕ) (shelf : ShelfSeen) (out err : SinkSeen) (outcome : Outcome) (schedule : List Turn) (finished : Finished)
    → text ≡ encode_utf8_all name → EndsRun outcome name shelf out schedule → Told outcome text err finished.status
    → finished.schedule ≡ schedule_at finished.status schedule → finished.files ≡ [] → SameFiles shelf.file shelf.file_after → Runs name shelf out err finished
runs_of name text shelf out err outcome schedule finished named ends told scheduled files put =
    let line : Told outcome (encode_utf8_all name) err finished.status = subst (λ t. Told outcome t err finished.status) named told in
    record {
      outcome = outcome;
      schedule = schedule;
      ends = ends;
      told = line;
      scheduled = scheduled;
      files = files;
      nothing_put = put;
      exactly = exactly_due name shelf out err outcome schedule finished.status ends line;
    }
