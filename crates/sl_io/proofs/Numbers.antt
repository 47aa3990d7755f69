-- Files in a list: where a name stands, and what a change there does.
use Rattle.std.proofs.Common.{◌≡◌, ◌≢◌, ◌⊎◌, inl, inr, ℕ, zero, suc, ◌+◌, ◌<◌, List, [], ◌∷◌, ◌++◌, None, Some, true, false, length, take, get_or, set, map, Vec, if◌then◌else◌, refl, sym, ap, ◌∙◌, subst, encode_utf8_all, arith}
use Rattle.std.specs.Str.{bytes_eq, chars, IsUtf8}
use Rattle.std.specs.declared.alloc.Global.{Global}
use Rattle.std.proofs.lemmas.List.{take_more, append-nil, get_or-map, length-map, map-set, map-append}
use Rattle.std.proofs.lemmas.Slice.Eq.{bytes_eq-Decides}
use Rattle.std.proofs.lemmas.Str.{encodes-chars}
use Rattle.sl_io.specs.Files.{Binds}
use Rattle.sl_io.specs.Held.{file_in, stored, IsNumberOf}

abbrev Entries : Type 0
Entries = List (List ℕ × List ℕ)

-- two names are equal or not, as their test says
same_or_not : (a b : List ℕ) → ((bytes_eq a b ≡ true) × (a ≡ b)) ⊎ ((bytes_eq a b ≡ false) × (a ≢ b))
same_or_not a b =
    let decides = bytes_eq-Decides a b in
    elim (bytes_eq a b) as (λ r. (r ≡ true → a ≡ b) → (a ≡ b → r ≡ true) → ((r ≡ true) × (a ≡ b)) ⊎ ((r ≡ false) × (a ≢ b)))
    [ true ↦ (λ yes no. inl (refl, yes refl)) | false ↦ (λ yes no. inr (refl, λ e. let h : false ≡ true = no e in cc)) ] decides.0 decides.1

-- the first file, where it has the name and where it has not
file_first : (x : List ℕ × List ℕ) (xs : Entries) (name : List ℕ) → x.0 ≡ name → file_in (x ∷ xs) name ≡ Some x.1
file_first x xs name e = ap (λ r. if r then Some x.1 else file_in xs name) ((bytes_eq-Decides x.0 name).1 e)

file_later : (x : List ℕ × List ℕ) (xs : Entries) (name : List ℕ) → bytes_eq x.0 name ≡ false → file_in (x ∷ xs) name ≡ file_in xs name
file_later x xs name e = ap (λ r. if r then Some x.1 else file_in xs name) e

file_other : (x : List ℕ × List ℕ) (xs : Entries) (name : List ℕ) → x.0 ≢ name → file_in (x ∷ xs) name ≡ file_in xs name
file_other x xs name e = elim (same_or_not x.0 name) [ inl h ↦ absurd (e h.1) | inr h ↦ file_later x xs name h.0 ]

-- a name with no file is not the first's, and has none behind it
none_later : (x : List ℕ × List ℕ) (xs : Entries) (name : List ℕ) → file_in (x ∷ xs) name ≡ None → (x.0 ≢ name) × (file_in xs name ≡ None)
none_later x xs name none =
    elim (same_or_not x.0 name) [ inl h ↦ (let found = file_first x xs name h.1 in cc) | inr h ↦ (h.1, sym (file_later x xs name h.0) ∙ none) ]

-- files behind others that lack the name
file_behind : (xs ys : Entries) (name : List ℕ) → file_in xs name ≡ None → file_in (xs ++ ys) name ≡ file_in ys name
file_behind [] ys name none = refl
file_behind (x ∷ xs) ys name none =
    let later = none_later x xs name none in
    file_other x (xs ++ ys) name later.0 ∙ file_behind xs ys name later.1

-- the same files in front of others
file_before : (xs ys zs : Entries) (name : List ℕ) → file_in ys name ≡ file_in zs name → file_in (xs ++ ys) name ≡ file_in (xs ++ zs) name
file_before [] ys zs name same = same
file_before (x ∷ xs) ys zs name same = ap (λ r. if bytes_eq x.0 name then Some x.1 else r) (file_before xs ys zs name same)

-- a file that was passed has another name
pub passed : (xs : Entries) (name : List ℕ) (i : ℕ) (d : List ℕ × List ℕ) → i < length xs
    → file_in (take i xs) name ≡ None → bytes_eq (get_or xs i d).0 name ≡ false → file_in (take (i + 1) xs) name ≡ None
passed xs name i d within none other =
    ap (λ front. file_in front name) (take_more xs i d within)
    ∙ file_behind (take i xs) (get_or xs i d ∷ []) name none
    ∙ file_later (get_or xs i d) [] name other

-- the file at its name's number is the name's file
pub file_at_number : (xs : Entries) (name : List ℕ) (i : ℕ) → IsNumberOf xs name i → file_in xs name ≡ Some (get_or xs i (name, [])).1
file_at_number [] name i here = absurd (omega (arith, here.within))
file_at_number (x ∷ xs) name zero here = file_first x xs name here.named
file_at_number (x ∷ xs) name (suc i) here =
    let later = none_later x (take i xs) name here.before in
    file_other x xs name later.0 ∙ file_at_number xs name i (record { before = later.1; within = omega (arith, here.within); named = here.named })

-- new bytes at the name's number
pub binds_at_number : (xs : Entries) (name bytes : List ℕ) (i : ℕ) → IsNumberOf xs name i → Binds (file_in xs) (file_in (set xs i (name, bytes))) name bytes
binds_at_number [] name bytes i here = absurd (omega (arith, here.within))
binds_at_number (x ∷ xs) name bytes zero here = record {
  bound = file_first (name, bytes) xs name refl;
  others = λ other differs.
      file_other (name, bytes) xs other (λ e. differs (sym e)) ∙ sym (file_other x xs other (λ e. differs (sym e ∙ here.named)));
}
binds_at_number (x ∷ xs) name bytes (suc i) here =
    let later = none_later x (take i xs) name here.before in
    let below = binds_at_number xs name bytes i (record { before = later.1; within = omega (arith, here.within); named = here.named }) in
    record {
      bound = file_other x (set xs i (name, bytes)) name later.0 ∙ below.bound;
      others = λ other differs. file_before (x ∷ []) (set xs i (name, bytes)) xs other (below.others other differs);
    }

-- a new last file
pub binds_last : (xs : Entries) (name bytes : List ℕ) → file_in xs name ≡ None → Binds (file_in xs) (file_in (xs ++ (name, bytes) ∷ [])) name bytes
binds_last xs name bytes none = record {
  bound = file_behind xs ((name, bytes) ∷ []) name none ∙ file_first (name, bytes) [] name refl;
  others = λ other differs.
      file_before xs ((name, bytes) ∷ []) [] other (file_other (name, bytes) [] other (λ e. differs (sym e))) ∙ ap (λ all. file_in all other) (append-nil xs);
}

-- files with characters for names, as a shelf keeps them
abbrev Kept : Type 0
Kept = List (List ℕ × Vec ℕ Global)

-- the one at a number, with its name's bytes
pub stored_at : (files : Kept) (i : ℕ) (file : List ℕ × Vec ℕ Global) (e : List ℕ × List ℕ)
    → i < length files → file ≡ get_or files i file → get_or (map stored files) i e ≡ stored file
stored_at files i file e within is = get_or-map stored files i file e within ∙ ap stored (sym is)

-- the name's file is the one at the name's number
pub kept_at : (files : Kept) (i : ℕ) (name : List ℕ) (file : List ℕ × Vec ℕ Global)
    → IsNumberOf (map stored files) name i → file ≡ get_or files i file → file_in (map stored files) name ≡ Some file.1.items
kept_at files i name file here is =
    let within : i < length files = omega (arith, here.within, length-map files stored) in
    file_at_number (map stored files) name i here ∙ ap (λ (entry : List ℕ × List ℕ). Some entry.1) (stored_at files i file (name, []) within is)

-- new bytes at the name's number bind the name
pub replaced_at : (files : Kept) (i : ℕ) (name bytes : List ℕ) (file : List ℕ × Vec ℕ Global) (copy : Vec ℕ Global)
    → IsNumberOf (map stored files) name i → file ≡ get_or files i file → copy.items ≡ bytes
    → Binds (file_in (map stored files)) (file_in (map stored (set files i (file.0, copy)))) name bytes
replaced_at files i name bytes file copy here is same =
    let within : i < length files = omega (arith, here.within, length-map files stored) in
    let named : encode_utf8_all file.0 ≡ name = ap (λ (entry : List ℕ × List ℕ). entry.0) (sym (stored_at files i file (name, []) within is)) ∙ here.named in
    let now : map stored (set files i (file.0, copy)) ≡ set (map stored files) i (name, bytes)
    = map-set stored files i (file.0, copy)
    ∙ ap (λ entry. set (map stored files) i (entry, copy.items)) named
    ∙ ap (λ kept. set (map stored files) i (name, kept)) same in
    let P : Entries → Type 0 = λ entries. Binds (file_in (map stored files)) (file_in entries) name bytes in
    subst P (sym now) (binds_at_number (map stored files) name bytes i here)

-- a new last file binds the name
pub added_last : (files after : Kept) (name bytes characters : List ℕ) (copy : Vec ℕ Global)
    → IsUtf8 name → file_in (map stored files) name ≡ None → characters ≡ chars name → copy.items ≡ bytes → after ≡ files ++ (characters, copy) ∷ []
    → Binds (file_in (map stored files)) (file_in (map stored after)) name bytes
added_last files after name bytes characters copy utf8 none spelled same is =
    let now : map stored after ≡ map stored files ++ (name, bytes) ∷ []
    = ap (map stored) is
    ∙ map-append stored files ((characters, copy) ∷ [])
    ∙ ap (λ entry. map stored files ++ (entry, copy.items) ∷ []) (ap encode_utf8_all spelled ∙ encodes-chars name utf8)
    ∙ ap (λ kept. map stored files ++ (name, kept) ∷ []) same in
    let P : Entries → Type 0 = λ entries. Binds (file_in (map stored files)) (file_in entries) name bytes in
    subst P (sym now) (binds_last (map stored files) name bytes none)
