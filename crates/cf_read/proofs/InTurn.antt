-- Members and the attributes of a method, one after the other, as a loop reads them.
use Rattle.std.proofs.Common.{◌≡◌, refl, sym, ap, ◌∙◌, ℕ, zero, suc, ◌+◌, ◌-◌, ◌<◌, ◌≤◌, List, [], ◌∷◌, ◌++◌, Ok, Err, Option, Bool, arith}
use Rattle.std.specs.Prelude.{codes, encode_utf8_all}
use Rattle.std.specs.Str.{bytes_eq, chars}
use Rattle.std.proofs.lemmas.Bool.Decides.{same_from_decides}
use Rattle.std.proofs.lemmas.List.{append-nil}
use Rattle.std.proofs.lemmas.Slice.Eq.{bytes_eq-Decides}
use Rattle.cf_form.specs.ClassFiles.{code_name}
use Rattle.cf_form.specs.declared.constant.Const.{Const}
use Rattle.cf_read.specs.declared.fault.Stop.{Stop}
use Rattle.cf_read.specs.Giving.{Fails}
use Rattle.cf_read.specs.Reading.{Read, ◌>>=◌, Key, Found, members_at, attribute_at, method_attributes_at}
use Rattle.cf_read.proofs.Loops.{with_front, regroup, stops, fails_so}

members_more : {A : Type 0} (one : List Key → List ℕ → Read A) (key : A → Key) (count i : ℕ) (keys : List Key) (bytes : List ℕ) → i < count
    → members_at one key (count - i) keys bytes
    ≡ (one keys bytes >>= λ first. members_at one key (count - (i + 1)) (keys ++ key first.0 ∷ []) first.1 >>= λ others. Ok (first.0 ∷ others.0, others.1))
unfolding members_at
members_more one key count i keys bytes l =
    let k : count - i ≡ suc (count - (i + 1)) = omega arith in
    ap (λ n. members_at one key n keys bytes) k

starts_with : {A : Type 0} (read : Read (List A)) → with_front [] read ≡ read
starts_with (Ok x) = refl
starts_with (Err f) = refl

-- before the first
pub members_begin : {A : Type 0} (one : List Key → List ℕ → Read A) (key : A → Key) (front : List A) (count : ℕ) (keys : List Key) (bytes : List ℕ) → front ≡ [] → keys ≡ []
    → with_front front (members_at one key (count - 0) keys bytes) ≡ members_at one key count [] bytes
members_begin one key front count keys bytes f k =
    let n : count - 0 ≡ count = omega arith in
    ap (λ xs. with_front xs (members_at one key (count - 0) keys bytes)) f ∙ starts_with (members_at one key (count - 0) keys bytes)
    ∙ ap (λ m. members_at one key m keys bytes) n ∙ ap (λ ks. members_at one key count ks bytes) k

pub members_go : {A : Type 0} (one : List Key → List ℕ → Read A) (key : A → Key) (front : List A) (count i : ℕ) (keys : List Key) (bytes after : List ℕ) (x : A) (total : Read (List A))
    → i < count → one keys bytes ≡ Ok (x, after) → with_front front (members_at one key (count - i) keys bytes) ≡ total
    → with_front (front ++ x ∷ []) (members_at one key (count - (i + 1)) (keys ++ key x ∷ []) after) ≡ total
members_go {A} one key front count i keys bytes after x total l h so_far =
    let rest : A × List ℕ → Read (List A) = λ first. members_at one key (count - (i + 1)) (keys ++ key first.0 ∷ []) first.1 >>= λ others. Ok (first.0 ∷ others.0, others.1) in
    sym (regroup front x (members_at one key (count - (i + 1)) (keys ++ key x ∷ []) after))
    ∙ ap (λ r. with_front front (r >>= rest)) (sym h)
    ∙ ap (with_front front) (sym (members_more one key count i keys bytes l)) ∙ so_far

pub members_end : {A : Type 0} (one : List Key → List ℕ → Read A) (key : A → Key) (e : Stop) (front : List A) (count i : ℕ) (keys : List Key) (bytes : List ℕ) (total : Read (List A))
    → i < count → Fails e (one keys bytes) → with_front front (members_at one key (count - i) keys bytes) ≡ total → Fails e total
members_end {A} one key e front count i keys bytes total l h so_far =
    let rest : A × List ℕ → Read (List A) = λ first. members_at one key (count - (i + 1)) (keys ++ key first.0 ∷ []) first.1 >>= λ others. Ok (first.0 ∷ others.0, others.1) in
    let all : Read (List A) = members_at one key (count - i) keys bytes in
    let part : Fails e all = fails_so e (one keys bytes >>= rest) all (sym (members_more one key count i keys bytes l)) (stops e (one keys bytes) rest h) in
    fails_so e (with_front front all) total so_far (stops e all (λ x. Ok (front ++ x.0, x.1)) part)

pub members_done : {A : Type 0} (one : List Key → List ℕ → Read A) (key : A → Key) (front : List A) (count i : ℕ) (keys : List Key) (bytes : List ℕ) (total : Read (List A))
    → count ≤ i → with_front front (members_at one key (count - i) keys bytes) ≡ total → total ≡ Ok (front, bytes)
unfolding members_at
members_done one key front count i keys bytes total l so_far =
    let k : count - i ≡ zero = omega arith in
    sym so_far ∙ ap (λ n. with_front front (members_at one key n keys bytes)) k ∙ ap (λ xs. Ok (xs, bytes)) (append-nil front)

-- the attributes of a method
attributes_more : (count i : ℕ) (pool : List Const) (access : ℕ) (before : Option Found) (bytes : List ℕ) → i < count
    → method_attributes_at (count - i) pool access before bytes
    ≡ (attribute_at pool access before bytes >>= λ first. method_attributes_at (count - (i + 1)) pool access first.0 first.1)
unfolding method_attributes_at
attributes_more count i pool access before bytes l =
    let k : count - i ≡ suc (count - (i + 1)) = omega arith in
    ap (λ n. method_attributes_at n pool access before bytes) k

pub attributes_go : (count i : ℕ) (pool : List Const) (access : ℕ) (before next : Option Found) (bytes after : List ℕ) (total : Read (Option Found))
    → i < count → attribute_at pool access before bytes ≡ Ok (next, after)
    → method_attributes_at (count - i) pool access before bytes ≡ total → method_attributes_at (count - (i + 1)) pool access next after ≡ total
attributes_go count i pool access before next bytes after total l h so_far =
    ap (λ (r : Read (Option Found)). r >>= λ first. method_attributes_at (count - (i + 1)) pool access first.0 first.1) (sym h)
    ∙ sym (attributes_more count i pool access before bytes l) ∙ so_far

pub attributes_end : (e : Stop) (count i : ℕ) (pool : List Const) (access : ℕ) (before : Option Found) (bytes : List ℕ) (total : Read (Option Found))
    → i < count → Fails e (attribute_at pool access before bytes) → method_attributes_at (count - i) pool access before bytes ≡ total → Fails e total
attributes_end e count i pool access before bytes total l h so_far =
    let rest : Option Found × List ℕ → Read (Option Found) = λ first. method_attributes_at (count - (i + 1)) pool access first.0 first.1 in
    let one : Read (Option Found) = attribute_at pool access before bytes in
    fails_so e (one >>= rest) total (sym (attributes_more count i pool access before bytes l) ∙ so_far) (stops e one rest h)

pub attributes_done : (count i : ℕ) (pool : List Const) (access : ℕ) (before : Option Found) (bytes : List ℕ) (total : Read (Option Found))
    → count ≤ i → method_attributes_at (count - i) pool access before bytes ≡ total → total ≡ Ok (before, bytes)
unfolding method_attributes_at
attributes_done count i pool access before bytes total l so_far =
    let k : count - i ≡ zero = omega arith in
    sym so_far ∙ ap (λ n. method_attributes_at n pool access before bytes) k

-- the text `Code`, tested by its UTF-8
pub code_tested : (text bytes : List ℕ) (r : Bool) → r ≡ bytes_eq bytes (codes "Code") → bytes ≡ encode_utf8_all text → chars bytes ≡ text
    → r ≡ bytes_eq text code_name
unfolding chars lib.Utf8.encode
code_tested text bytes r h e f =
    let there = bytes_eq-Decides bytes (codes "Code") in
    let here = bytes_eq-Decides text code_name in
    let known : chars (codes "Code") ≡ code_name = refl in
    let back : encode_utf8_all code_name ≡ codes "Code" = refl in
    h ∙ same_from_decides (bytes_eq bytes (codes "Code")) (bytes_eq text code_name)
    (λ t. sym f ∙ ap chars (there.0 t) ∙ known, λ (s : text ≡ code_name). there.1 (e ∙ ap encode_utf8_all s ∙ back)) here
