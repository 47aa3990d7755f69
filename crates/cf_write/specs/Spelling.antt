-- The one spelling of a class file that is written (JVMS 4), straight from the file.
use Rattle.std.specs.Prelude.{ℕ, ◌+◌, List, [], ◌∷◌, ◌++◌, length, Option, None, Some, Bool, false, if◌then◌else◌}
use Rattle.std.specs.List.{flat_map}
use Rattle.std.specs.Str.{bytes_eq}
use Rattle.cf_form.specs.Pool.{u2, u4, constant_bytes}
use Rattle.cf_form.specs.Instructions.{code_bytes}
use Rattle.cf_form.specs.Outline.{counted, row_bytes}
use Rattle.cf_form.specs.ClassFiles.{code_name, row_of}
use Rattle.cf_form.specs.declared.class_file.ClassFile.{ClassFile}
use Rattle.cf_form.specs.declared.class_file.FieldInfo.{FieldInfo}
use Rattle.cf_form.specs.declared.class_file.MethodInfo.{MethodInfo}
use Rattle.cf_form.specs.declared.code.Code.{Code}
use Rattle.cf_form.specs.declared.code.Handler.{Handler}
use Rattle.cf_form.specs.declared.constant.Const.{Const}
use Rattle.cf_form.specs.declared.constant.Const.TheVariants.{Utf8}
use Rattle.cf_form.specs.declared.instr.Instr.{Instr}

-- whether a constant is the text `Code`
abbrev pub is_code_name : Const → Bool
is_code_name (Utf8 text) = bytes_eq text code_name
is_code_name _ = false

-- the index of the first of these entries that is the text `Code`, where the first entry has the index `at`; 0 where none is
abbrev pub first_code_from : ℕ → List Const → ℕ
first_code_from at [] = 0
first_code_from at (constant ∷ constants) = if is_code_name constant then at else first_code_from (at + 1) constants

-- the index of the first entry that is the text `Code`; 0 where none is
abbrev pub first_code : List Const → ℕ
first_code pool = first_code_from 1 pool

-- a field, which has no attribute (JVMS 4.5)
abbrev pub field_bytes : FieldInfo → List ℕ
field_bytes f = u2 f.access ++ u2 f.name ++ u2 f.descriptor ++ u2 0

-- a handler of a code (JVMS 4.7.3)
abbrev pub handler_bytes : List Instr → Handler → List ℕ
handler_bytes code h = row_bytes (row_of code h)

-- what stands in a Code attribute, which has no attribute of its own (JVMS 4.7.3)
unfoldable pub code_info : Code → List ℕ
code_info code =
    u2 code.max_stack ++ u2 code.max_locals ++ u4 (length (code_bytes code.instrs)) ++ code_bytes code.instrs
    ++ counted (handler_bytes code.instrs) code.handlers ++ u2 0

-- the attributes of a method, with the index of the text `Code`
abbrev pub attributes_bytes : ℕ → Option Code → List ℕ
attributes_bytes name None = u2 0
attributes_bytes name (Some code) = u2 1 ++ u2 name ++ u4 (length (code_info code)) ++ code_info code

-- a method (JVMS 4.6)
abbrev pub method_bytes : ℕ → MethodInfo → List ℕ
method_bytes name m = u2 m.access ++ u2 m.name ++ u2 m.descriptor ++ attributes_bytes name m.code

-- the magic, the version and the pool (JVMS 4.1)
abbrev pub head : ClassFile → List ℕ
head file =
    0xCA ∷ 0xFE ∷ 0xBA ∷ 0xBE ∷ u2 file.minor ++ u2 file.major
    ++ u2 (1 + length file.pool) ++ flat_map constant_bytes file.pool

-- a class file (JVMS 4.1)
unfoldable pub spelling : ClassFile → List ℕ
spelling file =
    head file ++ u2 file.access ++ u2 file.this ++ u2 file.parent ++ counted u2 file.interfaces
    ++ counted field_bytes file.fields ++ counted (method_bytes (first_code file.pool)) file.methods ++ u2 0
