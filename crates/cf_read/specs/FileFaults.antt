-- Which fault is the first one of bytes that are no class file.
use Rattle.std.specs.Prelude.{◌≡◌, ◌≢◌, ℕ, ◌+◌, ◌≤◌, List, length, take, drop, false, Ok, Err, ◌⊎◌}
use Rattle.std.specs.Int.{w16, w32, from_be_bytes}
use Rattle.cf_form.specs.ClassFiles.{is_version}
use Rattle.cf_read.specs.declared.fault.Fault.{Fault}
use Rattle.cf_read.specs.declared.file_fault.FileFault.{FileFault}
use Rattle.cf_read.specs.declared.file_fault.FileKind.{FileKind}
use Rattle.cf_read.specs.declared.file_fault.FileKind.TheVariants as fault
use Rattle.cf_read.specs.Reading.{FileOutline, outline_of}
use Rattle.cf_read.specs.Codes.{IsBadMethod}

-- it is met on the way through the file, or in a code, where the way comes to the file's end
abbrev pub IsMet : List ℕ → Fault → Type 0
IsMet bytes f =
    (outline_of bytes ≡ Err f)
    ⊎ ((o : FileOutline) × (outline_of bytes ≡ Ok o) × IsBadMethod o.pool o.methods f)

-- this kind of fault is met at this byte
abbrev pub IsMetAt : List ℕ → FileKind → ℕ → Type 0
IsMetAt bytes kind at = (left : ℕ) × IsMet bytes (record { kind = kind; left = left }) × (at + left ≡ length bytes)

-- this kind of fault is the first one, at this byte; want of memory may come at any
abbrev pub IsFaultBy : List ℕ → FileKind → ℕ → Type 0
IsFaultBy bytes fault.Memory at = Unit {0}
IsFaultBy bytes kind at = IsMetAt bytes kind at

-- the fault is the first one of these bytes; want of memory may come at any
abbrev pub IsFileFault : List ℕ → FileFault → Type 0
IsFileFault bytes f = IsFaultBy bytes f.kind f.at

-- the number that the first four bytes are
abbrev pub magic_of : List ℕ → ℕ
magic_of bytes = from_be_bytes w32 (take 4 bytes)

-- the major version, which the seventh and the eighth byte are
abbrev pub major_of : List ℕ → ℕ
major_of bytes = from_be_bytes w16 (take 2 (drop 6 bytes))

-- there are four bytes, and they aren't the magic
pub record HasOtherMagic (bytes : List ℕ) : Type 0 where
  pub four : 4 ≤ length bytes
  pub other : magic_of bytes ≢ 0xCAFEBABE

-- the magic is there, and behind it a version that isn't read
pub record HasOtherVersion (bytes : List ℕ) : Type 0 where
  pub eight : 8 ≤ length bytes
  pub magic : magic_of bytes ≡ 0xCAFEBABE
  pub other : is_version (major_of bytes) ≡ false
