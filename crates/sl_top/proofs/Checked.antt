-- What comes of a call of `check FILE`, where the shelf tells its files.
use Rattle.std.proofs.Common.{◌≡◌, ◌⊎◌, inl, inr, ℕ, ◌<◌, ◌≤◌, List, [], length, IsTrue, Option, None, Some, Bool, true, false, ◌==◌, if◌then◌else◌, ◌∙◌, refl, sym, subst, arith, encode_utf8_all, IsSomeAnd}
use Rattle.sl_ast.specs.declared.unit.Unit as file_tree
use Rattle.runs.specs.declared.Turn.{Turn}
use Rattle.sl_io.specs.Files.{SameFiles}
use Rattle.sl_source.specs.declared.refusal.Refusal.{Refusal}
use Rattle.sl_source.specs.Source as of_bytes
use Rattle.sl_top.specs.declared.outcome.Outcome.{Outcome}
use Rattle.sl_top.specs.declared.outcome.Outcome.TheVariants.{Printed, NotBuilt, Refused, ShelfFault, OutFault, Usage, Memory, Missing, Long}
use Rattle.sl_top.specs.declared.finished.Finished.{Finished}
use Rattle.sl_top.specs.declared.source_file.TheConstants.{SOURCE_LIMIT}
use Rattle.sl_top.specs.Outcome.{Told, schedule_at}
use Rattle.sl_top.specs.Outside.{ShelfSeen, SinkSeen, IsCalm, IsUntouched}
use Rattle.sl_top.specs.Fetched.{IsSource, IsUnread}
use Rattle.sl_top.specs.Check.{IsFound, not_built, refused, IsChecked, unread, found, forgotten, IsDue, missing, long, read, IsDueBut, Checks}
use Rattle.sl_top.proofs.Exactly.{one_file, no_file, too_long}

-- where nothing ran, no schedule is handed out
none_scheduled : (status : ℕ) (schedule : List Turn) → schedule ≡ [] → schedule_at status schedule ≡ []
none_scheduled status schedule e = either (status == 7) schedule e where
  either : (b : Bool) (xs : List Turn) → xs ≡ [] → (if b then [] else xs) ≡ []
  either true xs f = refl
  either false xs f = f

-- what is found of the bytes that were had, unless memory runs out
pub checked_of : (shelf : ShelfSeen) (name bytes : List ℕ) (outcome : Outcome) → IsCalm shelf → IsSource shelf.tells shelf.file name bytes → (outcome ≡ Memory) ⊎ IsFound bytes outcome → IsChecked shelf name outcome
checked_of shelf name bytes outcome calm s (inl e) = forgotten calm e
checked_of shelf name bytes outcome calm s (inr f) = found calm s f

module _ (tree_once : (bytes : List ℕ) (one other : file_tree.Unit) → of_bytes.IsSource bytes one → of_bytes.IsSource bytes other → one ≡ other)
    (fault_once : (bytes : List ℕ) (one other : Refusal) → of_bytes.FirstFault bytes one → of_bytes.FirstFault bytes other → one ≡ other)
    (never_both : (bytes : List ℕ) (tree : file_tree.Unit) (r : Refusal) → of_bytes.IsSource bytes tree → of_bytes.FirstFault bytes r → ⊥) where
  one_found : {bytes : List ℕ} {one : Outcome} → IsFound bytes one → (other : Outcome) → IsFound bytes other → one ≡ other
  one_found (not_built t) other (not_built u) = refl
  one_found {bytes = bytes} (not_built {tree = t} s) other (refused {r = r} f) = absurd (never_both bytes t r s f)
  one_found {bytes = bytes} (refused {r = r} f) other (not_built {tree = t} s) = absurd (never_both bytes t r s f)
  one_found {bytes = bytes} (refused {r = r} f) other (refused {r = q} g) = let h : r ≡ q = fault_once bytes r q f g in subst (λ (z : Refusal). Refused r ≡ Refused z) h refl

  module _ (shelf : ShelfSeen) (name : List ℕ) (tells : IsTrue shelf.tells) where
    unread_missing : (outcome : Outcome) → None ≡ shelf.file (encode_utf8_all name) → IsUnread outcome shelf name → IsDueBut outcome Missing
    unread_missing Missing is c = inl refl
    unread_missing Long is c = let k : ⊥ = subst (λ (o : Option (List ℕ)). IsSomeAnd o (λ (bytes : List ℕ). SOURCE_LIMIT < length bytes)) (sym is) (c.1 tells) in absurd k
    unread_missing ShelfFault is c = inr (inl refl)
    unread_missing Memory is c = inr (inr refl)
    unread_missing outcome is c = absurd c

    unread_long : (outcome : Outcome) (bytes : List ℕ) → Some bytes ≡ shelf.file (encode_utf8_all name) → IsUnread outcome shelf name → IsDueBut outcome Long
    unread_long Missing bytes is c = let e = c.1 tells in absurd cc
    unread_long Long bytes is c = inl refl
    unread_long ShelfFault bytes is c = inr (inl refl)
    unread_long Memory bytes is c = inr (inr refl)
    unread_long outcome bytes is c = absurd c

    unread_short : (outcome due : Outcome) (bytes : List ℕ) → Some bytes ≡ shelf.file (encode_utf8_all name) → length bytes ≤ SOURCE_LIMIT → IsUnread outcome shelf name → IsDueBut outcome due
    unread_short Missing due bytes is short c = let e = c.1 tells in absurd cc
    unread_short Long due bytes is short c = absurd (too_long (shelf.file (encode_utf8_all name)) bytes is short (c.1 tells))
    unread_short ShelfFault due bytes is short c = inr (inl refl)
    unread_short Memory due bytes is short c = inr (inr refl)
    unread_short outcome due bytes is short c = absurd c

    unread_due : (outcome : Outcome) {file : Option (List ℕ)} {due : Outcome} → IsDue file due → file ≡ shelf.file (encode_utf8_all name) → IsUnread outcome shelf name → IsDueBut outcome due
    unread_due outcome missing is c = unread_missing outcome is c
    unread_due outcome (long {bytes = bytes} more) is c = unread_long outcome bytes is c
    unread_due outcome (read {bytes = bytes} {outcome = due} short f) is c = unread_short outcome due bytes is short c

    found_due : (outcome : Outcome) (source : List ℕ) {file : Option (List ℕ)} {due : Outcome} → IsDue file due → file ≡ shelf.file (encode_utf8_all name) → IsSource shelf.tells shelf.file name source → IsFound source outcome → IsDueBut outcome due
    found_due outcome source missing is s f = absurd (no_file (shelf.file (encode_utf8_all name)) source is (s.told tells))
    found_due outcome source (long {bytes = bytes} more) is s f =
        let e : bytes ≡ source = one_file (shelf.file (encode_utf8_all name)) bytes source is (s.told tells) in
        let l : length bytes ≤ SOURCE_LIMIT = subst (λ (z : List ℕ). length z ≤ SOURCE_LIMIT) (sym e) s.short in absurd (omega arith)
    found_due outcome source (read {bytes = bytes} {outcome = due} short g) is s f =
        let e : bytes ≡ source = one_file (shelf.file (encode_utf8_all name)) bytes source is (s.told tells) in
        inl (one_found f due (subst (λ (z : List ℕ). IsFound z due) e g))

    checked_due : (outcome due : Outcome) → IsChecked shelf name outcome → IsDue (shelf.file (encode_utf8_all name)) due → IsDueBut outcome due
    checked_due outcome due (unread c) d = unread_due outcome d refl c
    checked_due outcome due (found {bytes = source} calm s f) d = found_due outcome source d refl s f
    checked_due outcome due (forgotten calm e) d = inr (inr e)

  pub checks_of : (name text : List ℕ) (shelf : ShelfSeen) (out err : SinkSeen) (outcome ended : Outcome) (schedule : List Turn) (finished : Finished)
      → text ≡ encode_utf8_all name → IsChecked shelf name outcome → ended ≡ outcome → Told ended text err finished.status → IsUntouched out
      → finished.schedule ≡ schedule_at finished.status schedule → schedule ≡ [] → finished.files ≡ [] → SameFiles shelf.file shelf.file_after → Checks name shelf out err finished
  checks_of name text shelf out err outcome ended schedule finished named checked is told quiet scheduled unrun files put = record {
    outcome = outcome;
    checked = checked;
    told = subst (λ (o : Outcome). Told o (encode_utf8_all name) err finished.status) is (subst (λ (t : List ℕ). Told ended t err finished.status) named told);
    quiet = quiet;
    unrun = scheduled ∙ none_scheduled finished.status schedule unrun;
    files = files;
    nothing_put = put;
    exactly = λ tells due d. checked_due shelf name tells outcome due checked d;
  }
