-- Lists of words.
use Rattle.std.proofs.Common.{◌≡◌, ◌⊎◌, inl, inr, Bool, true, false, ℕ, List, [], ◌∷◌, ◌<◌, ◌≤◌, length, get_or, codes, Option, None, Some, MatchOption, refl, ap, subst, arith}
use Rattle.std.specs.Str.{bytes_eq}
use Rattle.std.proofs.lemmas.Slice.Eq.{bytes_eq-Decides}
use Rattle.sl_top.specs.declared.request.Options.{Options}
use Rattle.sl_top.specs.declared.request.Request.{Request}
use Rattle.sl_top.specs.declared.request.Request.TheVariants.{Run, Check}
use Rattle.sl_top.specs.declared.finished.Finished.{Finished}
use Rattle.sl_top.specs.Outside.{ShelfSeen, SinkSeen}
use Rattle.sl_top.specs.Commands.{CarriesOut}
use Rattle.sl_top.specs.Request.{AsksFor, AsksNothing, defaults}

-- a list of two
pub two_are : {A : Type 0} (xs : List A) (a b : A) → 2 ≤ length xs → length xs < 3 → a ≡ get_or xs 0 a → b ≡ get_or xs 1 b → xs ≡ a ∷ b ∷ []
two_are [] a b h l p q = absurd (omega arith)
two_are (x ∷ []) a b h l p q = absurd (omega arith)
two_are (x ∷ y ∷ []) a b h l p q = cc
two_are (x ∷ y ∷ z ∷ zs) a b h l p q = absurd (omega arith)

-- a list of two, part by part
pub pair_is : (a b c d : List ℕ) → a ≡ c → b ≡ d → a ∷ b ∷ [] ≡ c ∷ d ∷ []
pair_is a b c d e f = cc

-- words that are no command and a file ask for nothing
asks_nothing : (words : List (List ℕ)) → ((file : List ℕ) → words ≡ codes "check" ∷ file ∷ [] → ⊥) → ((file : List ℕ) → words ≡ codes "run" ∷ file ∷ [] → ⊥) → AsksNothing words
asks_nothing words no_check no_run (Check file) asks = no_check file asks
asks_nothing words no_check no_run (Run file options) asks = no_run file asks.0

-- a command and a file ask for what the command is
pub two_ask_nothing : (command file : List ℕ) → (command ≡ codes "check" → ⊥) → (command ≡ codes "run" → ⊥) → AsksNothing (command ∷ file ∷ [])
two_ask_nothing command file no_check no_run = asks_nothing (command ∷ file ∷ []) (λ other e. let h : command ≡ codes "check" = cc in no_check h) (λ other e. let h : command ≡ codes "run" = cc in no_run h)

pub other_than_two : (words : List (List ℕ)) → ((a b : List ℕ) → words ≡ a ∷ b ∷ [] → ⊥) → AsksNothing words
other_than_two words no_two = asks_nothing words (no_two (codes "check")) (no_two (codes "run"))

-- each list of words asks for a request, or for nothing
pub asks_or_not : (words : List (List ℕ)) → ((request : Request) × AsksFor words request) ⊎ AsksNothing words
asks_or_not [] = inr (asks_nothing [] (λ file e. cc) (λ file e. cc))
asks_or_not (a ∷ []) = inr (asks_nothing (a ∷ []) (λ file e. cc) (λ file e. cc))
asks_or_not (a ∷ b ∷ c ∷ others) = inr (asks_nothing (a ∷ b ∷ c ∷ others) (λ file e. cc) (λ file e. cc))
asks_or_not (a ∷ b ∷ []) = let checks = bytes_eq-Decides a (codes "check") in let runs = bytes_eq-Decides a (codes "run") in command (bytes_eq a (codes "check")) (bytes_eq a (codes "run")) checks.0 checks.1 runs.0 runs.1 where
  command : (q r : Bool) → (q ≡ true → a ≡ codes "check") → (a ≡ codes "check" → q ≡ true) → (r ≡ true → a ≡ codes "run") → (a ≡ codes "run" → r ≡ true) → ((request : Request) × AsksFor (a ∷ b ∷ []) request) ⊎ AsksNothing (a ∷ b ∷ [])
  command true r is_check check_is is_run run_is = inl (Check b, ap (λ word. word ∷ b ∷ []) (is_check refl))
  command false true is_check check_is is_run run_is = inl (Run b defaults, (ap (λ word. word ∷ b ∷ []) (is_run refl), refl))
  command false false is_check check_is is_run run_is = inr (two_ask_nothing a b (λ h. let k : false ≡ true = check_is h in cc) (λ h. let k : false ≡ true = run_is h in cc))

-- and for one alone
apart : (words : List (List ℕ)) (file other : List ℕ) → words ≡ codes "check" ∷ file ∷ [] → words ≡ codes "run" ∷ other ∷ [] → ⊥
apart words file other e f = let h : codes "check" ≡ codes "run" = cc in let l = ap length h in absurd cc

pub asks_once : (words : List (List ℕ)) (one other : Request) → AsksFor words one → AsksFor words other → one ≡ other
asks_once words (Check file) (Check other) a b = let h : file ≡ other = cc in ap (λ (z : List ℕ). Check z) h
asks_once words (Check file) (Run other options) a b = absurd (apart words file other a b.0)
asks_once words (Run file options) (Check other) a b = absurd (apart words other file b a.0)
asks_once words (Run file options) (Run other others) a b = let e = a.0 in let f = b.0 in let o = a.1 in let p = b.1 in cc

-- what an answer of `request_of` says of the words
pub none_asked : (found : Option Request) (words : List (List ℕ)) → MatchOption found (AsksNothing words) (AsksFor words) → found ≡ None → AsksNothing words
none_asked None words h e = h
none_asked (Some request) words h e = absurd cc

pub one_asked : (found : Option Request) (words : List (List ℕ)) (request : Request) → MatchOption found (AsksNothing words) (AsksFor words) → found ≡ Some request → AsksFor words request
one_asked None words request h e = absurd cc
one_asked (Some other) words request h e = let same : other ≡ request = cc in subst (λ r. AsksFor words r) same h

-- the request is the one that the words are said to ask for
pub asked_is : (found : Option Request) (words : List (List ℕ)) (request wanted : Request) → MatchOption found (AsksNothing words) (AsksFor words) → found ≡ Some request → AsksFor words wanted → request ≡ wanted
asked_is found words request wanted h e asks = asks_once words request wanted (one_asked found words request h e) asks

-- and so what is carried out is what they ask for
pub carried : (request wanted : Request) (shelf : ShelfSeen) (out err : SinkSeen) (finished : Finished) → request ≡ wanted → CarriesOut request shelf out err finished → CarriesOut wanted shelf out err finished
carried request wanted shelf out err finished is c = subst (λ (r : Request). CarriesOut r shelf out err finished) is c
