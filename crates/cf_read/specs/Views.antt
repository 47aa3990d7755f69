-- What the parts that a reader keeps say, without where they lie in memory.
use Rattle.std.specs.Prelude.{List, ℕ, map, option_map}
use Rattle.cf_form.specs.Outline.{Row}
use Rattle.cf_form.specs.declared.constant.Const.{Const}
use Rattle.cf_read.specs.Reading.{Found, Front, MethodOutline, FileOutline, Key, key_of}
use Rattle.cf_read.specs.declared.parts.RowParts.{RowParts}
use Rattle.cf_read.specs.declared.parts.CodeParts.{CodeParts}
use Rattle.cf_read.specs.declared.parts.FrontParts.{FrontParts}
use Rattle.cf_read.specs.declared.parts.MethodParts.{MethodParts}
use Rattle.cf_read.specs.declared.parts.FileParts.{FileParts}

-- a row of an exception table
abbrev pub row_of : RowParts → Row
row_of r = record { from = r.from; to = r.to; target = r.target; class = r.class }

-- a code with the bytes from its parts on
abbrev pub found_of : CodeParts → Found
found_of c = record {
  max_stack = c.max_stack;
  max_locals = c.max_locals;
  code = c.code.now;
  code_from = c.code_from.now;
  rows = map row_of c.rows.items;
  rows_from = c.rows_from.now;
}

-- what a member begins with
abbrev pub front_of : FrontParts → Front
front_of f = record { access = f.access; name = f.name; descriptor = f.descriptor }

-- a method
abbrev pub method_of : MethodParts → MethodOutline
method_of m = record { access = m.access; name = m.name; descriptor = m.descriptor; code = option_map found_of m.code }

-- a class file before its codes are looked into
abbrev pub file_of : FileParts → FileOutline
file_of f = record {
  minor = f.minor;
  major = f.major;
  pool = f.pool.items;
  access = f.access;
  this = f.this;
  parent = f.parent;
  interfaces = f.interfaces.items;
  fields = f.fields.items;
  methods = map method_of f.methods.items;
}

-- the keys of these pairs of indexes
abbrev pub key_at : List Const → ℕ × ℕ → Key
key_at pool k = key_of pool k.0 k.1
