-- Methods with their codes, one by one.
use Rattle.std.proofs.Common.{◌≡◌, refl, sym, ap, subst, ℕ, zero, suc, ◌+◌, ◌<◌, List, [], ◌∷◌, ◌++◌, length, take, drop, map, get_or, arith}
use Rattle.std.specs.List.{AllByRecursion}
use Rattle.std.proofs.lemmas.List.{map_more}
use Rattle.cf_form.specs.ClassFiles.{Each}
use Rattle.cf_form.specs.declared.class_file.MethodInfo.{MethodInfo}
use Rattle.cf_form.specs.declared.constant.Const.{Const}
use Rattle.cf_read.specs.Codes.{IsMethodRead}
use Rattle.cf_read.specs.Looking.{IsMethodStop, IsMethodsStop}
use Rattle.cf_read.specs.Views.{method_of}
use Rattle.cf_read.specs.declared.fault.Stop.{Stop}
use Rattle.cf_read.specs.declared.fault.Stop.TheVariants as stop
use Rattle.cf_read.specs.declared.parts.MethodParts.{MethodParts}

pub all_at : {A B : Type 0} (P : B → Type 0) (f : A → B) (xs : List A) (i : ℕ) (d : A) → i < length xs → AllByRecursion P (map f xs) → P (f (get_or xs i d))
all_at P f [] i d l h = absurd (omega arith)
all_at P f (x ∷ xs) zero d l h = h.0
all_at P f (x ∷ xs) (suc i) d l h = all_at P f xs i d (omega arith) h.1

pub each_push : {A B : Type 0} (P : A → B → Type 0) (xs : List A) (ys : List B) (x : A) (y : B) → Each P xs ys → P x y → Each P (xs ++ x ∷ []) (ys ++ y ∷ [])
each_push P [] [] x y h p = (p, tt)
each_push P (a ∷ xs) (b ∷ ys) x y h p = (h.0, each_push P xs ys x y h.1 p)
each_push P [] (b ∷ ys) x y h p = absurd h
each_push P (a ∷ xs) [] x y h p = absurd h

pub read_more : (pool : List Const) (methods : List MethodParts) (infos : List MethodInfo) (i : ℕ) (d : MethodParts) (info : MethodInfo) → i < length methods
    → Each (IsMethodRead pool) (map method_of (take i methods)) infos → IsMethodRead pool (method_of (get_or methods i d)) info
    → Each (IsMethodRead pool) (map method_of (take (i + 1) methods)) (infos ++ info ∷ [])
read_more pool methods infos i d info l h r =
    subst (λ ms. Each (IsMethodRead pool) ms (infos ++ info ∷ [])) (sym (map_more method_of methods i d l))
    (each_push (IsMethodRead pool) (map method_of (take i methods)) infos (method_of (get_or methods i d)) info h r)

parts : {A B : Type 0} (f : A → B) (xs : List A) (i : ℕ) (d : A) → i < length xs → map f xs ≡ map f (take i xs) ++ f (get_or xs i d) ∷ map f (drop (suc i) xs)
parts f [] i d l = absurd (omega arith)
parts f (x ∷ xs) zero d l = refl
parts f (x ∷ xs) (suc i) d l = ap (λ ys. f x ∷ ys) (parts f xs i d (omega arith))

pub methods_stop : (pool : List Const) (methods : List MethodParts) (infos : List MethodInfo) (i : ℕ) (d : MethodParts) (e : Stop) → i < length methods
    → Each (IsMethodRead pool) (map method_of (take i methods)) infos → IsMethodStop pool (method_of (get_or methods i d)) e
    → IsMethodsStop pool (map method_of methods) e
methods_stop pool methods infos i d stop.Memory l h s = tt
methods_stop pool methods infos i d (stop.Met f) l h s = record {
  before = map method_of (take i methods);
  method = method_of (get_or methods i d);
  after = map method_of (drop (suc i) methods);
  are = parts method_of methods i d l;
  right = infos;
  read = h;
  found = s.0;
  has_code = s.1;
  bad = s.2;
}
