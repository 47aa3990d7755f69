-- Bytes are one class file or have a fault, never both.
use Rattle.std.proofs.Common.{◌≡◌, refl, sym, ap, ◌∙◌, subst, ℕ, zero, suc, ◌<◌, ◌≤◌, ◌⊎◌, inl, inr, List, [], ◌∷◌, ◌++◌, length, map, Option, None, Some, Result, Ok, Err, arith}
use Rattle.std.specs.Prelude.{slice_get}
use Rattle.std.specs.List.{flat_map, AllByRecursion}
use Rattle.std.proofs.lemmas.Bool.{cases_lt}
use Rattle.cf_form.specs.ClassFiles.{Each, NamesWell, row_of, HandlerFits}
use Rattle.cf_form.specs.Instructions.{bytes_of, offset, IsCode, code_bytes}
use Rattle.cf_form.specs.Outline.{Row}
use Rattle.cf_form.specs.declared.class_file.ClassFile.{ClassFile}
use Rattle.cf_form.specs.declared.class_file.FieldInfo.{FieldInfo}
use Rattle.cf_form.specs.declared.class_file.MethodInfo.{MethodInfo}
use Rattle.cf_form.specs.declared.code.Code.{Code}
use Rattle.cf_form.specs.declared.code.Handler.{Handler}
use Rattle.cf_form.specs.declared.constant.Const.{Const}
use Rattle.cf_form.specs.declared.instr.Instr.{Instr}
use Rattle.cf_instr.proofs.Codes.{raws, code_bytes-is, one_code, code-rises}
use Rattle.cf_instr.proofs.Excluding.{not_code}
use Rattle.cf_instr.proofs.Parsing.{stuck_end}
use Rattle.cf_read.specs.Codes.{IsRead, IsReadOrNone, IsMethodRead, IsBad, Refused, Unnamed, Table, IsBadMethod, IsBadIndex, RowFits, IsBadRow, From, To, Target, Caught}
use Rattle.cf_read.specs.FileFaults.{IsMet}
use Rattle.cf_read.specs.Looking.{IsFileRead, IsReadWhole}
use Rattle.cf_read.specs.Reading.{Found, MethodOutline, FileOutline}
use Rattle.cf_read.specs.declared.fault.Fault.{Fault}
use Rattle.cf_read.specs.declared.file_fault.FileKind.{FileKind}
use Rattle.cf_read.proofs.Needing.{all_names_back}
use Rattle.cf_read.proofs.Parses.{front_has, bytes_push}
use Rattle.cf_read.proofs.Rows.{rows_right}

-- ---- one code

number_same : (code : List Instr) (j k : ℕ) → IsCode code → j ≤ length code → k ≤ length code → offset code j ≡ offset code k → j ≡ k
number_same code j k c l m e = by (cases_lt j k) (cases_lt k j)
  where
    by : (j < k) ⊎ (k ≤ j) → (k < j) ⊎ (j ≤ k) → j ≡ k
    by (inl b) _ = absurd (omega (arith, code-rises code j k c b m, e))
    by (inr b) (inl d) = absurd (omega (arith, code-rises code k j c d l, e))
    by (inr b) (inr d) = omega arith

handler_same : (pool : List Const) (code : List Instr) (h k : Handler) → IsCode code → HandlerFits pool (length code) h → HandlerFits pool (length code) k
    → row_of code h ≡ row_of code k → h ≡ k
handler_same pool code h k c f g e =
    let from = number_same code h.from k.from c (omega (arith, f.0)) (omega (arith, g.0)) (ap (λ (r : Row). r.from) e) in
    let to = number_same code h.to k.to c f.1 g.1 (ap (λ (r : Row). r.to) e) in
    let target = number_same code h.target k.target c (omega (arith, f.2)) (omega (arith, g.2)) (ap (λ (r : Row). r.target) e) in
    let class = ap (λ (r : Row). r.class) e in
    let made : ℕ → ℕ → ℕ → ℕ → Handler = λ a b t x. record { from = a; to = b; target = t; class = x } in
    ap (λ a. made a h.to h.target h.class) from ∙ ap (λ b. made k.from b h.target h.class) to ∙ ap (λ t. made k.from k.to t h.class) target ∙ ap (made k.from k.to k.target) class

handlers_same : (pool : List Const) (code : List Instr) (hs ks : List Handler) → IsCode code → AllByRecursion (HandlerFits pool (length code)) hs → AllByRecursion (HandlerFits pool (length code)) ks
    → map (row_of code) hs ≡ map (row_of code) ks → hs ≡ ks
handlers_same pool code [] [] c f g e = refl
handlers_same pool code (h ∷ hs) (k ∷ ks) c f g e =
    let first : row_of code h ≡ row_of code k = cc in
    let others : map (row_of code) hs ≡ map (row_of code) ks = cc in
    ap (λ x. x ∷ hs) (handler_same pool code h k c f.0 g.0 first) ∙ ap (λ xs. k ∷ xs) (handlers_same pool code hs ks c f.1 g.1 others)
handlers_same pool code [] (k ∷ ks) c f g e = absurd cc
handlers_same pool code (h ∷ hs) [] c f g e = absurd cc

read_same : (pool : List Const) (found : Found) (c d : Code) → IsRead pool found c → IsRead pool found d → c ≡ d
read_same pool found c d h k =
    let instrs = one_code c.instrs d.instrs h.is_code k.is_code (sym h.instrs ∙ k.instrs) in
    let fits = subst (λ is. AllByRecursion (HandlerFits pool (length is)) d.handlers) (sym instrs) k.handlers in
    let rows = sym h.rows ∙ k.rows ∙ ap (λ is. map (row_of is) d.handlers) (sym instrs) in
    let handlers = handlers_same pool c.instrs c.handlers d.handlers h.is_code h.handlers fits rows in
    let made : ℕ → ℕ → List Instr → List Handler → Code = λ s l is hs. record { max_stack = s; max_locals = l; instrs = is; handlers = hs } in
    ap (λ s. made s c.max_locals c.instrs c.handlers) (sym h.max_stack ∙ k.max_stack) ∙ ap (λ l. made d.max_stack l c.instrs c.handlers) (sym h.max_locals ∙ k.max_locals)
    ∙ ap (λ is. made d.max_stack d.max_locals is c.handlers) instrs ∙ ap (made d.max_stack d.max_locals d.instrs) handlers

maybe_same : (pool : List Const) (o : Option Found) (c d : Option Code) → IsReadOrNone pool o c → IsReadOrNone pool o d → c ≡ d
maybe_same pool None None None h k = refl
maybe_same pool (Some found) (Some c) (Some d) h k = ap (λ x. Some x) (read_same pool found c d h k)
maybe_same pool None None (Some d) h k = absurd k
maybe_same pool None (Some c) d h k = absurd h
maybe_same pool (Some found) None d h k = absurd h
maybe_same pool (Some found) (Some c) None h k = absurd k

method_same : (pool : List Const) (o : MethodOutline) (i j : MethodInfo) → IsMethodRead pool o i → IsMethodRead pool o j → i ≡ j
method_same pool o i j h k =
    let made : ℕ → ℕ → ℕ → Option Code → MethodInfo = λ a n d c. record { access = a; name = n; descriptor = d; code = c } in
    ap (λ a. made a i.name i.descriptor i.code) (sym h.0 ∙ k.0) ∙ ap (λ n. made j.access n i.descriptor i.code) (sym h.1 ∙ k.1)
    ∙ ap (λ d. made j.access j.name d i.code) (sym h.2 ∙ k.2) ∙ ap (made j.access j.name j.descriptor) (maybe_same pool o.code i.code j.code h.3 k.3)

methods_same : (pool : List Const) (os : List MethodOutline) (is js : List MethodInfo) → Each (IsMethodRead pool) os is → Each (IsMethodRead pool) os js → is ≡ js
methods_same pool [] [] [] h k = refl
methods_same pool (o ∷ os) (i ∷ is) (j ∷ js) h k = ap (λ x. x ∷ is) (method_same pool o i j h.0 k.0) ∙ ap (λ xs. j ∷ xs) (methods_same pool os is js h.1 k.1)
methods_same pool [] [] (j ∷ js) h k = absurd k
methods_same pool [] (i ∷ is) js h k = absurd h
methods_same pool (o ∷ os) [] js h k = absurd h
methods_same pool (o ∷ os) (i ∷ is) [] h k = absurd k

file_same : (o : FileOutline) (f g : ClassFile) → IsFileRead o f → IsFileRead o g → f ≡ g
file_same o f g h k =
    let methods = methods_same o.pool o.methods f.methods g.methods h.methods k.methods in
    let made : ℕ → ℕ → List Const → ℕ → ℕ → ℕ → List ℕ → List FieldInfo → List MethodInfo → ClassFile = λ a b c d e p i x y.
    record { minor = a; major = b; pool = c; access = d; this = e; parent = p; interfaces = i; fields = x; methods = y } in
    ap (λ a. made a f.major f.pool f.access f.this f.parent f.interfaces f.fields f.methods) (sym h.minor ∙ k.minor)
    ∙ ap (λ b. made g.minor b f.pool f.access f.this f.parent f.interfaces f.fields f.methods) (sym h.major ∙ k.major)
    ∙ ap (λ c. made g.minor g.major c f.access f.this f.parent f.interfaces f.fields f.methods) (sym h.pool ∙ k.pool)
    ∙ ap (λ d. made g.minor g.major g.pool d f.this f.parent f.interfaces f.fields f.methods) (sym h.access ∙ k.access)
    ∙ ap (λ e. made g.minor g.major g.pool g.access e f.parent f.interfaces f.fields f.methods) (sym h.this ∙ k.this)
    ∙ ap (λ p. made g.minor g.major g.pool g.access g.this p f.interfaces f.fields f.methods) (sym h.parent ∙ k.parent)
    ∙ ap (λ i. made g.minor g.major g.pool g.access g.this g.parent i f.fields f.methods) (sym h.interfaces ∙ k.interfaces)
    ∙ ap (λ x. made g.minor g.major g.pool g.access g.this g.parent g.interfaces x f.methods) (sym h.fields ∙ k.fields)
    ∙ ap (made g.minor g.major g.pool g.access g.this g.parent g.interfaces g.fields) methods

one_outline : (o p : FileOutline) → ◌≡◌ {A = Result FileOutline Fault} (Ok o) (Ok p) → o ≡ p
one_outline o p e = cc

pub whole_same : (bytes : List ℕ) (f g : ClassFile) → IsReadWhole bytes f → IsReadWhole bytes g → f ≡ g
whole_same bytes f g h k =
    let same = one_outline h.0 k.0 (sym h.1 ∙ k.1) in
    file_same k.0 f g (subst (λ o. IsFileRead o f) same h.2) k.2

-- ---- no fault

all_last : {A : Type 0} (P : A → Type 0) (xs : List A) (x : A) → AllByRecursion P (xs ++ x ∷ []) → P x
all_last P [] x h = h.0
all_last P (y ∷ xs) x h = all_last P xs x h.1

pub has_at : {A : Type 0} (P : A → Type 0) (xs : List A) (n : ℕ) (x : A) → AllByRecursion P xs → slice_get xs n ≡ Some x → P x
has_at P [] n x h e = absurd cc
has_at P (y ∷ xs) zero x h e = let same : y ≡ x = cc in subst P same h.0
has_at P (y ∷ xs) (suc n) x h e = has_at P xs n x h.1 e

pub row_apart : (pool : List Const) (code : List Instr) (row : Row) (kind : FileKind) (at : ℕ) → RowFits pool code row → IsBadRow pool code row kind at → ⊥
row_apart pool code row kind at f (From n) = n f.0
row_apart pool code row kind at f (To a n) = n f.1
row_apart pool code row kind at f (Target a b n) = n f.2
row_apart pool code row kind at f (Caught a b c n) = n f.3

-- an instruction that doesn't name what it needs is none of a code whose instructions do
pub index_apart : (pool : List Const) (code : List ℕ) (instrs : List Instr) (at : ℕ) → IsCode instrs → code ≡ code_bytes instrs → AllByRecursion (NamesWell pool) instrs
    → IsBadIndex pool code at → ⊥
index_apart pool code instrs at c e names b =
    let joined : flat_map bytes_of (raws instrs) ++ [] ≡ flat_map bytes_of (b.front ++ b.instr ∷ []) ++ b.rest =
    sym (code_bytes-is instrs) ∙ sym e ∙ b.splits ∙ ap (λ l. l ++ b.rest) (sym (bytes_push b.front b.instr)) in
    b.bad (all_last (NamesWell pool) b.front b.instr
    (front_has (NamesWell pool) (raws instrs) (b.front ++ b.instr ∷ []) [] b.rest c.fits b.fits stuck_end joined (all_names_back pool instrs 0 instrs names)))

bad_apart : (pool : List Const) (found : Found) (f : Fault) (c : Code) → IsBad pool found f → IsRead pool found c → ⊥
bad_apart pool found f c (Refused at b) h = not_code found.code b.refused.0 c.instrs b.refused.3 b.refused.1 h.is_code h.instrs
bad_apart pool found f c (Unnamed at b) h = index_apart pool found.code c.instrs at h.is_code h.instrs h.names b
bad_apart pool found f c (Table code d e n kind at t) h =
    let same = one_code c.instrs code h.is_code d (sym h.instrs ∙ e) in
    let right = subst (AllByRecursion (RowFits pool c.instrs)) (sym h.rows) (rows_right pool c.instrs c.handlers h.handlers) in
    let right_here = subst (λ is. AllByRecursion (RowFits pool is) found.rows) same right in
    row_apart pool code t.row kind t.within (has_at (RowFits pool code) found.rows t.n t.row right_here t.here) t.bad

each_middle : {A B : Type 0} (R : A → B → Type 0) (xs : List A) (x : A) (ys : List A) (is : List B) → Each R (xs ++ x ∷ ys) is → (i : B) × R x i
each_middle R [] x ys (i ∷ is) h = (i, h.0)
each_middle R [] x ys [] h = absurd h
each_middle R (z ∷ xs) x ys (i ∷ is) h = each_middle R xs x ys is h.1
each_middle R (z ∷ xs) x ys [] h = absurd h

pub code_apart : (pool : List Const) (m : MethodOutline) (i : MethodInfo) (found : Found) (f : Fault) → IsMethodRead pool m i → m.code ≡ Some found → IsBad pool found f → ⊥
code_apart pool m i found f h e b = by i.code (subst (λ o. IsReadOrNone pool o i.code) e h.3)
  where
    by : (c : Option Code) → IsReadOrNone pool (Some found) c → ⊥
    by None r = r
    by (Some code) r = bad_apart pool found f code b r

methods_apart : (pool : List Const) (ms : List MethodOutline) (is : List MethodInfo) (f : Fault) → Each (IsMethodRead pool) ms is → IsBadMethod pool ms f → ⊥
methods_apart pool ms is f h b =
    let here = each_middle (IsMethodRead pool) b.before b.method b.after is (subst (λ l. Each (IsMethodRead pool) l is) b.are h) in
    code_apart pool b.method here.0 b.found f here.1 b.has_code b.bad

err_ok : (f : Fault) (o : FileOutline) → ◌≡◌ {A = Result FileOutline Fault} (Err f) (Ok o) → ⊥
err_ok f o e = absurd cc

pub met_apart : (bytes : List ℕ) (f : Fault) (file : ClassFile) → IsMet bytes f → IsReadWhole bytes file → ⊥
met_apart bytes f file (inl e) r = err_ok f r.0 (sym e ∙ r.1)
met_apart bytes f file (inr h) r =
    let same = one_outline h.0 r.0 (sym h.1 ∙ r.1) in
    let each = subst (λ o. Each (IsMethodRead o.pool) o.methods file.methods) (sym same) r.2.methods in
    methods_apart h.0.pool h.0.methods file.methods f each h.2
