-- A file has more bytes than its run has steps.
use Rattle.std.proofs.Common.{ℕ, ◌+◌, ◌*◌, ◌≤◌, List, [], ◌∷◌, ◌++◌, length, replicate, ap, arith, codes, decimal, flat_map, length-append, sum_by}
use Rattle.std.proofs.lemmas.List.Sums.{sum_by-cons}
use Rattle.sl_top.specs.declared.operator.Operator.{Operator}
use Rattle.sl_top.specs.declared.operator.Operator.TheVariants.{Add, Sub, Mul}
use Rattle.sl_top.specs.declared.chain.Term.{Term}
use Rattle.sl_top.specs.declared.chain.Chain.{Chain}
use Rattle.sl_top.specs.Listing.{IsListing, line, AreLines, term_text, operator_text, chain_text, print_text, body_texts}
use Rattle.sl_top.specs.Value.{size, steps_of}

term_length : (t : Term) → 3 ≤ length (term_text t)
term_length t = operator_length t.op (decimal t.literal) where
  operator_length : (op : Operator) (more : List ℕ) → 3 ≤ length (operator_text op ++ more)
  operator_length Add more = omega arith
  operator_length Sub more = omega arith
  operator_length Mul more = omega arith

terms_length : (ts : List Term) → 3 * length ts ≤ length (flat_map term_text ts)
terms_length [] = omega arith
terms_length (t ∷ ts) = omega (arith, terms_length ts, term_length t, length-append (term_text t) (flat_map term_text ts))

line_length : (indent : ℕ) (text rest : List ℕ) → length text + 1 + length rest ≤ length (line indent text ++ rest)
line_length indent text rest = omega (arith, length-append (line indent text) rest, length-append (replicate indent 32) (text ++ 10 ∷ []), length-append text (10 ∷ []))

print_length : (c : Chain) → size c + 1 ≤ length (print_text c)
print_length c = omega (arith, terms_length c.rest, length-append (decimal c.first) (flat_map term_text c.rest), length-append (chain_text c) (codes ")"))

body_length : (cs : List Chain) (bytes : List ℕ) → AreLines (body_texts cs) bytes → sum_by (λ c. size c + 1) cs ≤ length bytes
body_length [] bytes h = omega arith
body_length (c ∷ cs) bytes h = omega (arith, sum_by-cons (λ c. size c + 1) c cs, body_length cs h.1 h.3, print_length c, line_length h.0 (print_text c) h.1, ap length h.2)

pub is_short : (chains : List Chain) (bytes : List ℕ) → IsListing bytes chains → steps_of chains ≤ length bytes
is_short chains bytes h =
    let a = h.lines in
    let b = a.3 in
    omega (arith, body_length chains b.1 b.3, line_length a.0 (codes "object Main {") a.1, ap length a.2, line_length b.0 (codes "def main(): Unit = {") b.1, ap length b.2)
