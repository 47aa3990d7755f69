-- What looking into codes finds, step by step.
use Rattle.std.specs.Prelude.{◌≡◌, ℕ, ◌≤◌, List, ◌++◌, length, drop, map, Some, Ok}
use Rattle.std.specs.Option.{option_map_or}
use Rattle.std.specs.List.{flat_map, AllByRecursion}
use Rattle.cf_form.specs.Instructions.{bytes_of, Fits}
use Rattle.cf_form.specs.ClassFiles.{NamesWell, row_of, HandlerFits, Each}
use Rattle.cf_form.specs.Outline.{Row}
use Rattle.cf_form.specs.declared.class_file.ClassFile.{ClassFile}
use Rattle.cf_form.specs.declared.code.Handler.{Handler}
use Rattle.cf_form.specs.declared.constant.Const.{Const}
use Rattle.cf_form.specs.declared.instr.Instr.{Instr}
use Rattle.cf_read.specs.declared.fault.Stop.{Stop}
use Rattle.cf_read.specs.declared.fault.Stop.TheVariants as stop
use Rattle.cf_read.specs.Reading.{Found, MethodOutline, FileOutline, outline_of}
use Rattle.cf_read.specs.Codes.{IsBad, IsBadTable, IsMethodRead, IsBadMethod}
use Rattle.cf_read.specs.FileFaults.{IsMet}

-- whatever whole instructions begin the bytes, they name what they need
abbrev pub AllNameWell : List Const → List ℕ → Type 0
AllNameWell pool code =
    (front : List Instr) (rest : List ℕ) → AllByRecursion Fits front → code ≡ flat_map bytes_of front ++ rest → AllByRecursion (NamesWell pool) front

-- whole instructions begin the bytes and name what they need, and these bytes follow
pub record AreNamedTo (pool : List Const) (code rest : List ℕ) : Type 0 where
  pub front : List Instr
  pub fits : AllByRecursion Fits front
  pub splits : code ≡ flat_map bytes_of front ++ rest
  pub names : AllByRecursion (NamesWell pool) front

-- the instruction at `at` is the first that doesn't name what it needs
pub record IsUnnamedAt (pool : List Const) (code : List ℕ) (at : ℕ) : Type 0 where
  pub front : List Instr
  pub instr : Instr
  pub rest : List ℕ
  pub fits : AllByRecursion Fits front
  pub instr_fits : Fits instr
  pub splits : code ≡ flat_map bytes_of front ++ bytes_of instr ++ rest
  pub before : length (flat_map bytes_of front) ≡ at
  pub names : AllByRecursion (NamesWell pool) front
  pub bad : ¬ (NamesWell pool instr)

-- these handlers are the rows
pub record AreHandlers (pool : List Const) (code : List Instr) (rows : List Row) (handlers : List Handler) : Type 0 where
  pub are : rows ≡ map (row_of code) handlers
  pub fit : AllByRecursion (HandlerFits pool (length code)) handlers

-- no memory was left, or the fault is that of the table, whose rows begin these bytes
abbrev pub IsTableStop : List Const → List Instr → List Row → List ℕ → Stop → Type 0
IsTableStop pool code rows from stop.Memory = Unit {0}
IsTableStop pool code rows from (stop.Met f) = (at : ℕ) × IsBadTable pool code rows f.kind at × (f.left ≡ length (drop at from))

-- no memory was left, or the fault is one of this code
abbrev pub IsCodeStop : List Const → Found → Stop → Type 0
IsCodeStop pool found stop.Memory = Unit {0}
IsCodeStop pool found (stop.Met f) = IsBad pool found f

-- no memory was left, or the fault is one of this method's code
abbrev pub IsMethodStop : List Const → MethodOutline → Stop → Type 0
IsMethodStop pool method stop.Memory = Unit {0}
IsMethodStop pool method (stop.Met f) = (found : Found) × (method.code ≡ Some found) × IsBad pool found f

-- a code is no longer than it may be
abbrev pub IsShort : MethodOutline → Type 0
IsShort method = option_map_or (λ found. length found.code) method.code 0 ≤ 65535

-- the file is that of the outline, its codes those that were found
pub record IsFileRead (o : FileOutline) (file : ClassFile) : Type 0 where
  pub minor : o.minor ≡ file.minor
  pub major : o.major ≡ file.major
  pub pool : o.pool ≡ file.pool
  pub access : o.access ≡ file.access
  pub this : o.this ≡ file.this
  pub parent : o.parent ≡ file.parent
  pub interfaces : o.interfaces ≡ file.interfaces
  pub fields : o.fields ≡ file.fields
  pub methods : Each (IsMethodRead o.pool) o.methods file.methods

-- the bytes are an outline, and this is its file
abbrev pub IsReadWhole : List ℕ → ClassFile → Type 0
IsReadWhole bytes file = (o : FileOutline) × (outline_of bytes ≡ Ok o) × IsFileRead o file

-- no memory was left, or the fault is met in these methods
abbrev pub IsMethodsStop : List Const → List MethodOutline → Stop → Type 0
IsMethodsStop pool methods stop.Memory = Unit {0}
IsMethodsStop pool methods (stop.Met f) = IsBadMethod pool methods f

-- no memory was left, or the fault is met in these bytes
abbrev pub IsFileStop : List ℕ → Stop → Type 0
IsFileStop bytes stop.Memory = Unit {0}
IsFileStop bytes (stop.Met f) = IsMet bytes f
