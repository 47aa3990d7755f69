-- For proofs only: parts of the class file that the test writes.
use Rattle.std.specs.Prelude.{ℕ, pos, negsuc, List, [], ◌∷◌, false, codes}
use Rattle.cf_form.specs.declared.code.Code.{Code}
use Rattle.cf_form.specs.declared.constant.Const.{Const}
use Rattle.cf_form.specs.declared.constant.Const.TheVariants.{Utf8, Int, Float, Long, Double, Class, Text, Field, Method, Interface, NameType, Rest}
use Rattle.cf_form.specs.declared.instr.Instr.{Instr}

-- an entry of each kind
abbrev pub full_pool : List Const
full_pool =
    Class 2 ∷ Utf8 (codes "A") ∷ Class 4 ∷ Utf8 (codes "B") ∷ Utf8 (codes "Code")
    ∷ Long (negsuc 1) ∷ Rest ∷ Double 0x3FF0000000000000 ∷ Rest
    ∷ Utf8 (0 ∷ 0x1F600 ∷ []) ∷ Utf8 (codes "()V") ∷ Utf8 (codes "Code")
    ∷ NameType 12 11 ∷ Method 1 13 ∷ Int (negsuc 0) ∷ Float 0x3F800000 ∷ Text 10 ∷ Field 1 13 ∷ Interface 3 13 ∷ []

-- an instruction of one operand
abbrev instr : ℕ → ℕ → Instr
instr op a = record { op = op; wide = false; a = pos a; b = pos 0 }

-- a jump to the last instruction, the call of a static method of an interface, and a handler that leads to the end
abbrev pub full_code : Code
full_code = record {
  max_stack = 2;
  max_locals = 1;
  instrs = instr 0x03 0 ∷ instr 0x99 5 ∷ instr 0x14 6 ∷ instr 0x58 0 ∷ instr 0xB8 19 ∷ instr 0xB1 0 ∷ [];
  handlers = record { from = 1; to = 4; target = 6; class = 1 } ∷ [];
}
