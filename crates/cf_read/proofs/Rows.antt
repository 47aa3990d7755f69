-- Rows of an exception table, and the handlers that they are.
use Rattle.std.proofs.Common.{◌≡◌, refl, sym, ap, ◌∙◌, subst, ℕ, ◌+◌, ◌*◌, ◌<◌, ◌≤◌, List, [], ◌∷◌, length, take, drop, map, get_or, arith}
use Rattle.std.specs.Prelude.{◌≢◌, option_map}
use Rattle.std.specs.List.{AllByRecursion, flat_map}
use Rattle.std.proofs.lemmas.List.{append-nil, take-map}
use Rattle.std.proofs.lemmas.Option.{slice_get-map, slice_get-get_or}
use Rattle.cf_form.specs.Instructions.{offset, IsCode, code_bytes, bytes_of}
use Rattle.cf_form.specs.ClassFiles.{row_of, HandlerFits, NamesWell}
use Rattle.cf_form.specs.declared.code.Handler.{Handler}
use Rattle.cf_form.specs.declared.constant.Const.{Const}
use Rattle.cf_form.specs.declared.instr.Instr.{Instr}
use Rattle.cf_instr.specs.Offsets.{AreOffsets}
use Rattle.cf_instr.proofs.Codes.{raws, code_bytes-is, offset-with_offsets}
use Rattle.cf_instr.proofs.Targets.{length-with_offsets}
use Rattle.cf_instr.proofs.Sizes.{offset-all, count-le}
use Rattle.cf_read.specs.Codes.{IsBoundary, RowFits, IsBadRow, IsBadTable, IsBad, Table}
use Rattle.cf_read.specs.Looking.{AreHandlers, IsTableStop, IsCodeStop}
use Rattle.cf_read.specs.Reading.{Found}
use Rattle.cf_read.specs.Views.{row_of as parts_of}
use Rattle.cf_read.specs.declared.fault.Fault.{Fault}
use Rattle.cf_read.specs.declared.fault.Stop.{Stop}
use Rattle.cf_read.specs.declared.fault.Stop.TheVariants as stop
use Rattle.cf_read.specs.declared.file_fault.FileKind.{FileKind}
use Rattle.cf_read.specs.declared.parts.RowParts.{RowParts}

pub bounds : (code : List Instr) (starts : List ℕ) (at n : ℕ) → AreOffsets code starts
    → (n < length starts) × (get_or starts n 0 ≡ at) → (n ≤ length code) × (offset code n ≡ at)
bounds code starts at n h f =
    let below : n ≤ length code = omega (arith, h.many, f.0) in
    (below, sym (h.each n below) ∙ f.1)

pub bounds_not : (code : List Instr) (starts : List ℕ) (at : ℕ) → AreOffsets code starts
    → ((k : ℕ) → k < length starts → get_or starts k 0 ≢ at) → ¬ (IsBoundary code at)
bounds_not code starts at h f b = f b.0 (omega (arith, h.many, b.1)) (h.each b.0 b.1 ∙ b.2)

-- the row of a handler is right
row_right : (pool : List Const) (code : List Instr) (h : Handler) → HandlerFits pool (length code) h → RowFits pool code (row_of code h)
row_right pool code h f = ((h.from, f.0, refl), (h.to, f.1, refl), (h.target, f.2, refl), f.3)

pub rows_right : (pool : List Const) (code : List Instr) (hs : List Handler) → AllByRecursion (HandlerFits pool (length code)) hs
    → AllByRecursion (RowFits pool code) (map (row_of code) hs)
rows_right pool code [] f = tt
rows_right pool code (h ∷ hs) f = (row_right pool code h f.0, rows_right pool code hs f.1)

-- a code has no more instructions than bytes
pub code_within : (code : List ℕ) (instrs : List Instr) (n : ℕ) → IsCode instrs → code ≡ code_bytes instrs → length code ≤ n
    → (offset instrs (length instrs) ≤ n) × (length instrs ≤ n)
code_within code instrs n h e l =
    let many = length-with_offsets instrs 0 instrs in
    let bytes : length code ≡ length (flat_map bytes_of (raws instrs)) = ap length (e ∙ code_bytes-is instrs ∙ append-nil (flat_map bytes_of (raws instrs))) in
    let last : offset instrs (length instrs) ≡ offset (raws instrs) (length (raws instrs)) = sym (offset-with_offsets instrs 0 instrs (length instrs)) ∙ ap (offset (raws instrs)) (sym many) in
    (omega (arith, last, offset-all (raws instrs), bytes), omega (arith, many, count-le (raws instrs) h.fits, bytes))

-- the first wrong row
pub table_stop : (pool : List Const) (code : List Instr) (rows : List RowParts) (hs : List Handler) (n : ℕ) (d : RowParts) (kind : FileKind) (within : ℕ) (from : List ℕ)
    → n < length rows → AreHandlers pool code (map parts_of (take n rows)) hs → IsBadRow pool code (parts_of (get_or rows n d)) kind within
    → IsTableStop pool code (map parts_of rows) from (stop.Met (record { kind = kind; left = length (drop (8 * n + within) from) }))
table_stop pool code rows hs n d kind within from l h bad =
    let right = subst (AllByRecursion (RowFits pool code)) (sym (take-map parts_of n rows ∙ h.are)) (rows_right pool code hs h.fit) in
    let table : IsBadTable pool code (map parts_of rows) kind (8 * n + within) = record {
      n = n;
      row = parts_of (get_or rows n d);
      here = slice_get-map parts_of rows n ∙ ap (option_map parts_of) (slice_get-get_or rows n d l);
      before = right;
      within = within;
      bad = bad;
      offset = refl;
    } in
    (8 * n + within, table, refl)

-- and the fault of its code
pub code_stop : (pool : List Const) (found : Found) (code : List Instr) (e : Stop) → IsCode code → found.code ≡ code_bytes code → AllByRecursion (NamesWell pool) code
    → IsTableStop pool code found.rows found.rows_from e → IsCodeStop pool found e
code_stop pool found code stop.Memory c b n h = tt
code_stop pool found code (stop.Met f) c b n h =
    let fault : ℕ → Fault = λ left. record { kind = f.kind; left = left } in
    subst (λ left. IsBad pool found (fault left)) (sym h.2) (Table code c b n f.kind h.0 h.1)
