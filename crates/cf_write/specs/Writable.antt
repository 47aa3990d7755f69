-- For proofs only: class files whose counts and lengths fit their bytes.
use Rattle.std.specs.Prelude.{ℕ, ◌+◌, ◌≤◌, length, Option, None, Some}
use Rattle.std.specs.List.{AllByRecursion}
use Rattle.cf_mutf8.specs.ModifiedUtf8.{encoded}
use Rattle.cf_form.specs.Pool.{Fits2}
use Rattle.cf_form.specs.Instructions.{IsCode, offset}
use Rattle.cf_form.specs.declared.class_file.ClassFile.{ClassFile}
use Rattle.cf_form.specs.declared.class_file.MethodInfo.{MethodInfo}
use Rattle.cf_form.specs.declared.code.Code.{Code}
use Rattle.cf_form.specs.declared.code.Handler.{Handler}
use Rattle.cf_form.specs.declared.constant.Const.{Const}
use Rattle.cf_form.specs.declared.constant.Const.TheVariants.{Utf8}

-- the bytes of a text are so few that their count fits two bytes
abbrev pub TextFits : Const → Type 0
TextFits (Utf8 text) = Fits2 (length (encoded text))
TextFits _ = Unit {0}

-- its ends are among n instructions and the end behind them
abbrev pub HandlerIsWithin : ℕ → Handler → Type 0
HandlerIsWithin n h = (h.from ≤ n) × (h.to ≤ n) × (h.target ≤ n)

-- a code, of 65,535 bytes at most, and its handlers
pub record CodeIsWritable (code : Code) : Type 0 where
  pub is_code : IsCode code.instrs
  pub most : offset code.instrs (length code.instrs) ≤ 65535
  pub count : Fits2 (length code.handlers)
  pub handlers : AllByRecursion (HandlerIsWithin (length code.instrs)) code.handlers

-- the code is writable where there is one
abbrev pub CodeIsWritableOrNone : Option Code → Type 0
CodeIsWritableOrNone None = Unit {0}
CodeIsWritableOrNone (Some code) = CodeIsWritable code

-- the code of a method is writable where there is one
abbrev pub MethodIsWritable : MethodInfo → Type 0
MethodIsWritable m = CodeIsWritableOrNone m.code

-- a class file whose counts and lengths fit
pub record IsWritable (file : ClassFile) : Type 0 where
  pub count : Fits2 (1 + length file.pool)
  pub texts : AllByRecursion TextFits file.pool
  pub interfaces : Fits2 (length file.interfaces)
  pub fields : Fits2 (length file.fields)
  pub methods : Fits2 (length file.methods)
  pub codes : AllByRecursion MethodIsWritable file.methods
