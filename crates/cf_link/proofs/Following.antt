-- The parameters that are read are those of the grammar.
use Rattle.std.proofs.Common.{◌≡◌, ◌≢◌, ◌∙◌, ℕ, ◌+◌, ◌<◌, ◌≤◌, List, [], ◌∷◌, ◌++◌, length, Some, None, refl, sym, ap, subst, arith, append_assoc, append-nil}
use Rattle.std.proofs.lemmas.List.{length-append}
use Rattle.cf_link.specs.declared.value_kind.ValueKind.{ValueKind}
use Rattle.cf_link.specs.Descriptors.{IsType, letter, class, array, AreTypes, none, more}
use Rattle.cf_link.specs.Signatures.{AreParameters, NoParameters}
use Rattle.cf_link.specs.Parsing as parse
use Rattle.cf_link.proofs.Types.{type_read, type_given, Starts, some_pair}

-- a type has a byte
pub type_length : (type : List ℕ) (kind : ValueKind) → IsType type kind → 1 ≤ length type
type_length type kind (letter b k is) = omega arith
type_length type kind (class name is) = omega arith
type_length type kind (array component k is) = omega arith

types_push : (types : List ℕ) (kinds : List ValueKind) (type : List ℕ) (kind : ValueKind) → AreTypes types kinds → IsType type kind → AreTypes (types ++ type) (kinds ++ kind ∷ [])
types_push types kinds type kind none is = subst (λ xs. AreTypes xs (kind ∷ [])) (append-nil type) (more type kind [] [] is none)
types_push types kinds type kind (more first k others ks one rest) is =
    subst (λ xs. AreTypes xs (k ∷ (ks ++ kind ∷ []))) (sym (append_assoc first others type)) (more first k (others ++ type) (ks ++ kind ∷ []) one (types_push others ks type kind rest is))

-- types, and what is left of the bytes
pub record Left (bytes : List ℕ) (kinds : List ValueKind) (rest : List ℕ) : Type 0 where
  pub types : List ℕ
  pub are : AreTypes types kinds
  pub text : bytes ≡ types ++ rest

pub left_first : (bytes : List ℕ) → Left bytes [] bytes
left_first bytes = record { types = []; are = none; text = refl }

pub left_more : (bytes : List ℕ) (kinds : List ValueKind) (rest : List ℕ) (kind : ValueKind) (after : List ℕ) → parse.type_in_front rest ≡ Some (kind, after) → Left bytes kinds rest → Left bytes (kinds ++ kind ∷ []) after
left_more bytes kinds rest kind after read left =
    let found : Starts rest (kind, after) = type_given rest (kind, after) read in
    record {
      types = left.types ++ found.0;
      are = types_push left.types kinds found.0 kind left.are found.2;
      text = left.text ∙ ap (λ xs. left.types ++ xs) found.1 ∙ sym (append_assoc left.types found.0 after);
    }

pub left_shorter : (rest : List ℕ) (kind : ValueKind) (after : List ℕ) → parse.type_in_front rest ≡ Some (kind, after) → length after < length rest
left_shorter rest kind after read =
    let found : Starts rest (kind, after) = type_given rest (kind, after) read in
    let n : length rest ≡ length found.0 + length after = ap length found.1 ∙ length-append found.0 after in
    let one : 1 ≤ length found.0 = type_length found.0 kind found.2 in
    omega arith

-- parameters of bytes go on where types of them were read
pub record GoesOn (rest after : List ℕ) (kinds all : List ValueKind) : Type 0 where
  pub types : List ℕ
  pub further : List ValueKind
  pub are : AreTypes types further
  pub text : rest ≡ types ++ 41 ∷ after
  pub is : all ≡ kinds ++ further

follow : (types : List ℕ) (kinds : List ValueKind) (rest others after : List ℕ) (all : List ValueKind) → AreTypes types kinds → AreTypes others all → types ++ rest ≡ others ++ 41 ∷ after → GoesOn rest after kinds all
follow types kinds rest others after all none are text = record { types = others; further = all; are = are; text = text; is = refl }
follow types kinds rest others after all (more type kind types' kinds' is behind) none text =
    let read : parse.type_in_front (type ++ (types' ++ rest)) ≡ Some (kind, types' ++ rest) = type_read type kind (types' ++ rest) is in
    let same : type ++ (types' ++ rest) ≡ 41 ∷ after = sym (append_assoc type types' rest) ∙ text in
    let other : parse.type_in_front (41 ∷ after) ≡ Some (kind, types' ++ rest) = subst (λ xs. parse.type_in_front xs ≡ Some (kind, types' ++ rest)) same read in
    absurd (cc other)
follow types kinds rest others after all (more type kind types' kinds' is behind) (more other k others' ks too further) text =
    let one : parse.type_in_front (type ++ (types' ++ rest)) ≡ Some (kind, types' ++ rest) = type_read type kind (types' ++ rest) is in
    let two : parse.type_in_front (other ++ (others' ++ 41 ∷ after)) ≡ Some (k, others' ++ 41 ∷ after) = type_read other k (others' ++ 41 ∷ after) too in
    let same : type ++ (types' ++ rest) ≡ other ++ (others' ++ 41 ∷ after) = sym (append_assoc type types' rest) ∙ text ∙ append_assoc other others' (41 ∷ after) in
    let both = some_pair (kind, types' ++ rest) (k, others' ++ 41 ∷ after) (sym one ∙ ap parse.type_in_front same ∙ two) in
    let on : GoesOn rest after kinds' ks = follow types' kinds' rest others' after ks behind further both.1 in
    record {
      types = on.types;
      further = on.further;
      are = on.are;
      text = on.text;
      is = ap (λ x. x ∷ ks) (sym both.0) ∙ ap (λ xs. kind ∷ xs) on.is;
    }

pub goes_on : (bytes : List ℕ) (kinds : List ValueKind) (rest others after : List ℕ) (all : List ValueKind) → Left bytes kinds rest → AreTypes others all → bytes ≡ others ++ 41 ∷ after → GoesOn rest after kinds all
goes_on bytes kinds rest others after all left are text = follow left.types kinds rest others after all left.are are (sym left.text ∙ text)

-- nothing goes on where neither a type nor `)` is in front
stuck : (rest types after : List ℕ) (kinds : List ValueKind) → parse.type_in_front rest ≡ None → ((xs : List ℕ) → rest ≢ 41 ∷ xs) → AreTypes types kinds → rest ≡ types ++ 41 ∷ after → ⊥
stuck rest types after kinds unread other none text = other after text
stuck rest types after kinds unread other (more type kind types' kinds' is behind) text =
    let read : parse.type_in_front (type ++ (types' ++ 41 ∷ after)) ≡ Some (kind, types' ++ 41 ∷ after) = type_read type kind (types' ++ 41 ∷ after) is in
    let same : rest ≡ type ++ (types' ++ 41 ∷ after) = text ∙ append_assoc type types' (41 ∷ after) in
    let whole : None ≡ Some (kind, types' ++ 41 ∷ after) = sym unread ∙ ap parse.type_in_front same ∙ read in
    cc whole

pub no_parameters : (bytes : List ℕ) (kinds : List ValueKind) (rest : List ℕ) → Left bytes kinds rest → parse.type_in_front rest ≡ None → ((xs : List ℕ) → rest ≢ 41 ∷ xs) → NoParameters bytes
no_parameters bytes kinds rest left unread other types all after are text =
    let on : GoesOn rest after kinds all = goes_on bytes kinds rest types after all left are text in
    stuck rest on.types after on.further unread other on.are on.text

pub parameters : (bytes : List ℕ) (kinds : List ValueKind) (rest after : List ℕ) → Left bytes kinds rest → rest ≡ 41 ∷ after → AreParameters bytes kinds after
parameters bytes kinds rest after left is = record { types = left.types; are = left.are; text = left.text ∙ ap (λ xs. left.types ++ xs) is }
