-- A text describes at most one method.
use Rattle.std.proofs.Common.{◌≡◌, ◌≢◌, ◌∙◌, ℕ, true, false, ◌&&◌, arith, length, drop, take, ◌-◌, ◌≤◌, slice_index_or, List, [], ◌∷◌, ◌++◌, Option, Some, None, refl, sym, ap, subst, append_assoc}
use Rattle.cf_link.specs.declared.value_kind.ValueKind.{ValueKind}
use Rattle.cf_link.specs.Descriptors.{IsType, AreTypes, none, more, IsResult, void, type, IsMethodType, method}
use Rattle.std.specs.Prelude.{◌==◌}
use Rattle.std.proofs.lemmas.List.{take_all}
use Rattle.std.proofs.lemmas.Bool.{eqb-true}
use Rattle.std.proofs.lemmas.Bool.Decides.{nat_tests}
use Rattle.cf_link.specs.Parsing.{type_in_front, is_void}
use Rattle.cf_link.specs.Signatures.{AreParameters, NoParameters}
use Rattle.cf_link.proofs.Types.{type_read, whole_read, whole_kind, some_pair}

-- a type in front of more types is read
front_read : (one : List ℕ) (kind : ValueKind) (others end : List ℕ) → IsType one kind → type_in_front ((one ++ others) ++ end) ≡ Some (kind, others ++ end)
front_read one kind others end is = ap type_in_front (append_assoc one others end) ∙ type_read one kind (others ++ end) is

no_front : (after : List ℕ) (found : ValueKind × List ℕ) → type_in_front (41 ∷ after) ≢ Some found
no_front after found h = cc h

-- the kinds of the parameters, and what stands behind them, are determined
pub same_parameters : (types types' : List ℕ) (kinds kinds' : List ValueKind) (after after' : List ℕ) → AreTypes types kinds → AreTypes types' kinds'
    → types ++ 41 ∷ after ≡ types' ++ 41 ∷ after' → (kinds ≡ kinds') × (after ≡ after')
same_parameters types types' kinds kinds' after after' none none text = (refl, cc text)
same_parameters types types' kinds kinds' after after' none (more one kind others ks is are) text =
    absurd (no_front after (kind, others ++ 41 ∷ after') (ap type_in_front text ∙ front_read one kind others (41 ∷ after') is))
same_parameters types types' kinds kinds' after after' (more one kind others ks is are) none text =
    absurd (no_front after' (kind, others ++ 41 ∷ after) (ap type_in_front (sym text) ∙ front_read one kind others (41 ∷ after) is))
same_parameters types types' kinds kinds' after after' (more one kind others ks is are) (more one' kind' others' ks' is' are') text =
    let read : (kind ≡ kind') × (others ++ 41 ∷ after ≡ others' ++ 41 ∷ after') =
    some_pair (kind, others ++ 41 ∷ after) (kind', others' ++ 41 ∷ after')
    (sym (front_read one kind others (41 ∷ after) is) ∙ ap type_in_front text ∙ front_read one' kind' others' (41 ∷ after') is') in
    let rest : (ks ≡ ks') × (after ≡ after') = same_parameters others others' ks ks' after after' are are' read.1 in
    (ap (λ k. k ∷ ks) read.0 ∙ ap (λ xs. kind' ∷ xs) rest.0, rest.1)

-- the parts of the text of a method
pub record Parts (bytes : List ℕ) (kinds : List ValueKind) (returned : Option ValueKind) : Type 0 where
  pub types : List ℕ
  pub result : List ℕ
  pub text : bytes ≡ 40 ∷ types ++ 41 ∷ result
  pub are : AreTypes types kinds
  pub is : IsResult result returned

pub parts : (bytes : List ℕ) (kinds : List ValueKind) (returned : Option ValueKind) → IsMethodType bytes kinds returned → Parts bytes kinds returned
parts bytes kinds returned (method types ks result kind are is) = record { types = types; result = result; text = refl; are = are; is = is }

unread : (bytes : List ℕ) (kind : ValueKind) → type_in_front bytes ≡ None → IsType bytes kind → ⊥
unread bytes kind read is =
    let whole : None ≡ Some (kind, []) = sym read ∙ whole_read bytes kind is in cc whole

void_read : (kind : ValueKind) (after : List ℕ) → type_in_front (86 ∷ []) ≢ Some (kind, after)
void_read kind after h = cc h

-- a result that was read as a type
pub result_same : (bytes : List ℕ) (kind : ValueKind) (after : List ℕ) (returned : Option ValueKind) → type_in_front bytes ≡ Some (kind, after)
    → IsResult bytes returned → (after ≡ []) × (Some kind ≡ returned)
result_same bytes kind after returned read void = absurd (void_read kind after read)
result_same bytes kind after returned read (type one other is) =
    let same : (kind ≡ other) × (after ≡ []) = whole_kind one kind other after read is in (same.1, ap Some same.0)

-- a result that wasn't read as a type is `V`
pub result_void : (bytes : List ℕ) (returned : Option ValueKind) → type_in_front bytes ≡ None → IsResult bytes returned → (bytes ≡ 86 ∷ []) × (None ≡ returned)
result_void bytes returned read void = (refl, refl)
result_void bytes returned read (type one other is) = absurd (unread one other read is)

pub void_given : (bytes : List ℕ) → is_void bytes ≡ true → bytes ≡ 86 ∷ []
void_given [] h = absurd (cc h)
void_given (b ∷ []) h = ap (λ x. x ∷ []) (eqb-true b 86 h)
void_given (b ∷ next ∷ bs) h =
    let ne : length (b ∷ next ∷ bs) ≢ 1 = omega arith in
    let long : (length (b ∷ next ∷ bs) == 1) ≡ false = grind (arith, nat_tests) in
    absurd (let wrong : false ≡ true = sym (ap (λ t. t && (b == 86)) long) ∙ h in cc wrong)

pub void_not : (bytes : List ℕ) → is_void bytes ≡ false → bytes ≢ 86 ∷ []
void_not bytes h is = let wrong : false ≡ true = sym h ∙ ap is_void is in cc wrong

-- what stands behind the first byte
abbrev pub behind : List ℕ → List ℕ
behind bytes = take (length bytes - 1) (drop 1 bytes)

-- bytes that begin with `(`
pub opened : (bytes : List ℕ) → length bytes ≢ 0 → slice_index_or bytes 0 0 ≡ 40 → bytes ≡ 40 ∷ behind bytes
opened [] some first = absurd (some refl)
opened (b ∷ bs) some first =
    let enough : length bs ≤ length (b ∷ bs) - 1 = omega arith in
    ap (λ x. x ∷ bs) first ∙ ap (λ xs. 40 ∷ xs) (sym (take_all (length (b ∷ bs) - 1) bs enough))

-- a method that was read
pub method_given : (bytes tail after : List ℕ) (kinds : List ValueKind) (returned : Option ValueKind) → bytes ≡ 40 ∷ tail → AreParameters tail kinds after
    → IsResult after returned → IsMethodType bytes kinds returned
method_given bytes tail after kinds returned text are is =
    subst (λ xs. IsMethodType xs kinds returned) (sym (text ∙ ap (λ xs. 40 ∷ xs) are.text)) (method are.types kinds after returned are.are is)

-- the parts behind `(` of a method are those that were read
pub method_same : (bytes tail after : List ℕ) (kinds ks : List ValueKind) (returned : Option ValueKind) → bytes ≡ 40 ∷ tail → AreParameters tail kinds after
    → IsMethodType bytes ks returned → (kinds ≡ ks) × IsResult after returned
method_same bytes tail after kinds ks returned text are is =
    let p : Parts bytes ks returned = parts bytes ks returned is in
    let tails : tail ≡ p.types ++ 41 ∷ p.result = (let both : 40 ∷ tail ≡ 40 ∷ p.types ++ 41 ∷ p.result = sym text ∙ p.text in cc both) in
    let same : (kinds ≡ ks) × (after ≡ p.result) = same_parameters are.types p.types kinds ks after p.result are.are p.are (sym are.text ∙ tails) in
    (same.0, subst (λ xs. IsResult xs returned) (sym same.1) p.is)

-- no method, where no parameters were read
pub method_none : (bytes tail : List ℕ) (ks : List ValueKind) (returned : Option ValueKind) → bytes ≡ 40 ∷ tail → NoParameters tail → ¬ (IsMethodType bytes ks returned)
method_none bytes tail ks returned text unread is =
    let p : Parts bytes ks returned = parts bytes ks returned is in
    let tails : tail ≡ p.types ++ 41 ∷ p.result = (let both : 40 ∷ tail ≡ 40 ∷ p.types ++ 41 ∷ p.result = sym text ∙ p.text in cc both) in
    unread p.types ks p.result p.are tails
