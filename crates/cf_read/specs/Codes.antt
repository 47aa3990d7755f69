-- The codes of a class file, which are looked into after the whole file (JVMS 4.7.3, 4.9.1).
use Rattle.std.specs.Prelude.{◌≡◌, ◌≢◌, ℕ, ◌+◌, ◌*◌, ◌<◌, ◌≤◌, List, [], ◌∷◌, ◌++◌, length, take, drop, slice_get, Option, None, Some, map, IsTrue}
use Rattle.std.specs.List.{flat_map, AllByRecursion}
use Rattle.cf_form.specs.Pool.{names}
use Rattle.cf_form.specs.Instructions.{IsCode, code_bytes, bytes_of, Fits, offset}
use Rattle.cf_form.specs.ClassFiles.{NamesWell, row_of, HandlerFits, Each}
use Rattle.cf_form.specs.Outline.{Row}
use Rattle.cf_form.specs.declared.class_file.MethodInfo.{MethodInfo}
use Rattle.cf_form.specs.declared.code.Code.{Code}
use Rattle.cf_form.specs.declared.constant.Const.{Const}
use Rattle.cf_form.specs.declared.instr.Instr.{Instr}
use Rattle.cf_form.specs.declared.kind.Kind.TheVariants as kind
use Rattle.cf_instr.specs.Faults.{IsFault}
use Rattle.cf_instr.specs.declared.code_fault.CodeFault.{CodeFault}
use Rattle.cf_instr.specs.declared.code_fault.CodeKind.TheVariants as codes
use Rattle.cf_read.specs.declared.fault.Fault.{Fault}
use Rattle.cf_read.specs.declared.file_fault.FileKind.{FileKind}
use Rattle.cf_read.specs.declared.file_fault.FileKind.TheVariants as fault
use Rattle.cf_read.specs.Reading.{Found, MethodOutline}

-- the code that was found is this one
pub record IsRead (pool : List Const) (found : Found) (code : Code) : Type 0 where
  pub max_stack : found.max_stack ≡ code.max_stack
  pub max_locals : found.max_locals ≡ code.max_locals
  pub is_code : IsCode code.instrs
  pub instrs : found.code ≡ code_bytes code.instrs
  pub names : AllByRecursion (NamesWell pool) code.instrs
  pub rows : found.rows ≡ map (row_of code.instrs) code.handlers
  pub handlers : AllByRecursion (HandlerFits pool (length code.instrs)) code.handlers

-- the code is refused at this byte, and it isn't memory that is wanting
abbrev pub IsRefusedAt : List ℕ → ℕ → Type 0
IsRefusedAt code at = (f : CodeFault) × (f.kind ≢ codes.Memory) × (f.at ≡ at) × IsFault code f

-- the bytes of a code are refused at `at`, and the instructions before it name what they need
pub record IsBadCode (pool : List Const) (code : List ℕ) (at : ℕ) : Type 0 where
  pub refused : IsRefusedAt code at
  pub front : List Instr
  pub fits : AllByRecursion Fits front
  pub rest : List ℕ
  pub splits : code ≡ flat_map bytes_of front ++ rest
  pub before : length (flat_map bytes_of front) ≡ at
  pub names : AllByRecursion (NamesWell pool) front

-- the instruction at `at` is the first that doesn't name what it needs, and nothing before it is refused
pub record IsBadIndex (pool : List Const) (code : List ℕ) (at : ℕ) : Type 0 where
  pub front : List Instr
  pub instr : Instr
  pub rest : List ℕ
  pub fits : AllByRecursion Fits (front ++ instr ∷ [])
  pub splits : code ≡ flat_map bytes_of front ++ bytes_of instr ++ rest
  pub before : length (flat_map bytes_of front) ≡ at
  pub names : AllByRecursion (NamesWell pool) front
  pub bad : ¬ (NamesWell pool instr)
  pub first : (earlier : ℕ) → earlier < at → ¬ (IsRefusedAt code earlier)

-- one of these instructions begins at this byte, or the last ends there
abbrev pub IsBoundary : List Instr → ℕ → Type 0
IsBoundary code at = (n : ℕ) × (n ≤ length code) × (offset code n ≡ at)

-- what a handler catches is a class, or everything
abbrev pub CatchesClass : List Const → Row → Type 0
CatchesClass pool row = row.class ≢ 0 → IsTrue (names pool kind.Class row.class)

-- each offset of a row is a boundary of the code, and it catches a class or everything
abbrev pub RowFits : List Const → List Instr → Row → Type 0
RowFits pool code row =
    IsBoundary code row.from × IsBoundary code row.to × IsBoundary code row.target × CatchesClass pool row

-- what is first wrong in a row, so many bytes from its beginning
pub data IsBadRow (pool : List Const) (code : List Instr) (row : Row) : FileKind → ℕ → Type 0 where
  From : ¬ (IsBoundary code row.from) → IsBadRow pool code row fault.Code 0
  To : IsBoundary code row.from → ¬ (IsBoundary code row.to) → IsBadRow pool code row fault.Code 2
  Target : IsBoundary code row.from → IsBoundary code row.to → ¬ (IsBoundary code row.target)
      → IsBadRow pool code row fault.Code 4
  Caught : IsBoundary code row.from → IsBoundary code row.to → IsBoundary code row.target
      → ¬ (CatchesClass pool row) → IsBadRow pool code row fault.Index 6

-- the first wrong row of a table, whose rows begin the bytes
pub record IsBadTable (pool : List Const) (code : List Instr) (rows : List Row) (kind : FileKind) (at : ℕ) : Type 0 where
  pub n : ℕ
  pub row : Row
  pub here : slice_get rows n ≡ Some row
  pub before : AllByRecursion (RowFits pool code) (take n rows)
  pub within : ℕ
  pub bad : IsBadRow pool code row kind within
  pub offset : at ≡ 8 * n + within

-- the first fault of a code that was found
pub data IsBad (pool : List Const) (found : Found) : Fault → Type 0 where
  Refused : (at : ℕ) → IsBadCode pool found.code at
      → IsBad pool found (record { kind = fault.Code; left = length (drop at found.code_from) })
  Unnamed : (at : ℕ) → IsBadIndex pool found.code at
      → IsBad pool found (record { kind = fault.Index; left = length (drop (at + 1) found.code_from) })
  Table : (code : List Instr) → IsCode code → found.code ≡ code_bytes code → AllByRecursion (NamesWell pool) code
      → (kind : FileKind) → (at : ℕ) → IsBadTable pool code found.rows kind at
      → IsBad pool found (record { kind = kind; left = length (drop at found.rows_from) })

-- the method is this one
abbrev pub IsReadOrNone : List Const → Option Found → Option Code → Type 0
IsReadOrNone pool None None = Unit {0}
IsReadOrNone pool (Some found) (Some code) = IsRead pool found code
IsReadOrNone pool _ _ = ⊥

-- the method is this one, its code that which was found
abbrev pub IsMethodRead : List Const → MethodOutline → MethodInfo → Type 0
IsMethodRead pool outline method =
    (outline.access ≡ method.access) × (outline.name ≡ method.name) × (outline.descriptor ≡ method.descriptor)
    × IsReadOrNone pool outline.code method.code

-- the first of these methods whose code isn't right has this fault
pub record IsBadMethod (pool : List Const) (methods : List MethodOutline) (fault : Fault) : Type 0 where
  pub before : List MethodOutline
  pub method : MethodOutline
  pub after : List MethodOutline
  pub are : methods ≡ before ++ method ∷ after
  pub right : List MethodInfo
  pub read : Each (IsMethodRead pool) before right
  pub found : Found
  pub has_code : method.code ≡ Some found
  pub bad : IsBad pool found fault
