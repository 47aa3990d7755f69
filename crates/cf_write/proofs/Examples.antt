-- The class file that the test writes has a spelling.
use Rattle.std.proofs.Common.{◌≡◌, ◌≢◌, ℕ, zero, suc, ◌<◌, List, [], ◌∷◌, None, Some, negsuc, ap, refl, arith, rules}
use Rattle.std.specs.Prelude.{codes, IsTrue}
use Rattle.std.specs.List.{AllByRecursion}
use Rattle.cf_mutf8.specs.ModifiedUtf8 as utf8
use Rattle.cf_form.specs.Pool.{text_at, kind_needed, ConstantFits, refers_well}
use Rattle.cf_form.specs.Instructions.{IsCode, bytes_of, Fits, offset, jumps, code_bytes}
use Rattle.cf_form.specs.Opcodes.{shape_of}
use Rattle.cf_form.specs.Outline.{Attribute, Member, CodeOutline, code_outline_bytes, CodeOutlineFits, Outline, outline_bytes, OutlineFits}
use Rattle.cf_form.specs.ClassFiles.{HoldsCode, HasCode, IsMethod, AreNamed, key, code_name, Says, IsPlain, Spelled}
use Rattle.cf_form.specs.declared.class_file.ClassFile.{ClassFile}
use Rattle.cf_write.specs.Examples.{full_pool, full_code}
use Rattle.cf_form.specs.declared.constant.Const.{Const}
use Rattle.cf_form.specs.declared.constant.Const.TheVariants.{Utf8, Int, Float, Long, Double, Class, Text, Field, Method, Interface, NameType}

abbrev pub full : ClassFile
full = record {
  minor = 3;
  major = 52;
  pool = full_pool;
  access = 33;
  this = 1;
  parent = 3;
  interfaces = 3 ∷ [];
  fields = record { access = 2; name = 10; descriptor = 2 } ∷ [];
  methods = record { access = 0x0401; name = 10; descriptor = 11; code = None } ∷ record { access = 1; name = 12; descriptor = 11; code = Some full_code } ∷ [];
}

abbrev code_outline : CodeOutline
code_outline = record {
  max_stack = 2;
  max_locals = 1;
  code = 0x03 ∷ 0x99 ∷ 0 ∷ 10 ∷ 0x14 ∷ 0 ∷ 6 ∷ 0x58 ∷ 0xB8 ∷ 0 ∷ 19 ∷ 0xB1 ∷ [];
  rows = record { from = 1; to = 8; target = 12; class = 1 } ∷ [];
  attributes = [];
}

abbrev code_attribute : Attribute
code_attribute = record { name = 5; info = code_outline_bytes code_outline }

abbrev without : Member
without = record { access = 0x0401; name = 10; descriptor = 11; attributes = [] }

abbrev with_code : Member
with_code = record { access = 1; name = 12; descriptor = 11; attributes = code_attribute ∷ [] }

abbrev constants : List Const
constants =
    Class 2 ∷ Utf8 (codes "A") ∷ Class 4 ∷ Utf8 (codes "B") ∷ Utf8 (codes "Code") ∷ Long (negsuc 1) ∷ Double 0x3FF0000000000000
    ∷ Utf8 (0 ∷ 0x1F600 ∷ []) ∷ Utf8 (codes "()V") ∷ Utf8 (codes "Code")
    ∷ NameType 12 11 ∷ Method 1 13 ∷ Int (negsuc 0) ∷ Float 0x3F800000 ∷ Text 10 ∷ Field 1 13 ∷ Interface 3 13 ∷ []

abbrev full_outline : Outline
full_outline = record {
  minor = 3;
  major = 52;
  constants = constants;
  access = 33;
  this = 1;
  parent = 3;
  interfaces = 3 ∷ [];
  fields = record { access = 2; name = 10; descriptor = 2; attributes = [] } ∷ [];
  methods = without ∷ with_code ∷ [];
  attributes = [];
}

constants_fit : AllByRecursion ConstantFits constants
unfolding utf8.character_bytes utf8.units_of utf8.unit_bytes
constants_fit = search rules

full_fits : OutlineFits full_outline
full_fits = record {
  minor = omega arith;
  major = omega arith;
  constants = constants_fit;
  count = omega arith;
  access = omega arith;
  this = omega arith;
  parent = omega arith;
  interfaces = search rules;
  fields = search rules;
  methods = search rules;
  attributes = search rules;
}

code_fits : CodeOutlineFits code_outline
code_fits = record {
  max_stack = omega arith;
  max_locals = omega arith;
  some = omega arith;
  most = omega arith;
  rows = search rules;
  attributes = search rules;
}

is_code : IsCode full_code.instrs
unfolding bytes_of Fits offset jumps shape_of
is_code = record { some = omega arith; fits = search rules; targets = search rules }

holds : HoldsCode full_pool (code_outline_bytes code_outline) full_code
unfolding bytes_of code_bytes offset jumps shape_of kind_needed
holds = record {
  outline = code_outline;
  fits = code_fits;
  bytes = refl;
  max_stack = refl;
  max_locals = refl;
  is_code = is_code;
  instrs = refl;
  names = search rules;
  rows = refl;
  handlers = ((omega arith, omega arith, omega arith, λ _. refl), tt);
}

has_code : HasCode full_pool (code_attribute ∷ []) full_code
has_code = record { before = []; attribute = code_attribute; after = []; are = refl; named = refl; others = tt; holds = holds }

full_methods : IsMethod full_pool without (record { access = 0x0401; name = 10; descriptor = 11; code = None })
    × IsMethod full_pool with_code (record { access = 1; name = 12; descriptor = 11; code = Some full_code })
full_methods = ((refl, refl, refl, λ e. omega arith, tt), (refl, refl, refl, refl, has_code))

different : key full_pool with_code ≢ key full_pool without
different e = let texts : Some (codes "Code") ≡ Some (0 ∷ 0x1F600 ∷ []) = ap (λ p. p.0) e in absurd cc

methods_named : AreNamed full_pool (without ∷ with_code ∷ [])
methods_named = (((refl, refl), ((refl, refl), tt)), ((different, tt), (tt, tt)))

full_refers : AllByRecursion (λ c. IsTrue (refers_well full_pool c)) constants
full_refers = search rules

full_says : Says full_outline full
full_says = record {
  minor = refl;
  major = refl;
  version = refl;
  pool = refl;
  refers = full_refers;
  access = refl;
  this = refl;
  is_class = refl;
  parent = refl;
  has_parent = refl;
  interfaces = refl;
  are_classes = (refl, tt);
  fields_named = (((refl, refl), tt), (tt, tt));
  fields = ((refl, refl, refl), tt);
  methods_named = methods_named;
  methods = (full_methods.0, (full_methods.1, tt));
}

-- no entry before 5 is the text `Code`
not_before : (i : ℕ) → i < 5 → text_at full_pool i ≢ Some code_name
not_before zero l e = absurd cc
not_before (suc zero) l e = absurd cc
not_before (suc (suc zero)) l e = absurd cc
not_before (suc (suc (suc zero))) l e = absurd cc
not_before (suc (suc (suc (suc zero)))) l e = absurd cc
not_before (suc (suc (suc (suc (suc i))))) l e = absurd (omega arith)

full_plain : IsPlain full_outline
full_plain = record {
  fields = (refl, tt);
  methods = (tt, ((((refl, not_before), (code_outline, code_fits, refl, refl)), tt), tt));
  attributes = refl;
}

pub full_spelled : (bytes : List ℕ) × Spelled full bytes
full_spelled = (outline_bytes full_outline, (full_outline, record { fits = full_fits; is_spelled = refl; says = full_says }, full_plain))
