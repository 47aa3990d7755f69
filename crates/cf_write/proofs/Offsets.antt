-- Where instructions begin.
use Rattle.std.proofs.Common.{◌≡◌, ℕ, ◌+◌, ◌*◌, ◌≤◌, ◌<◌, ℤ, Bool, true, false, List, [], ◌∷◌, ◌++◌, length, take, drop, get_or, Option, None, Some, refl, sym, ap, ◌∙◌, arith}
use Rattle.std.specs.List.{flat_map, sum_by}
use Rattle.std.proofs.lemmas.List.{length-append, take_all, take-append-drop}
use Rattle.std.proofs.lemmas.List.Sums.{sum_by-cons, sum_by-append}
use Rattle.cf_form.specs.Outline.{row_bytes, counted}
use Rattle.cf_form.specs.Pool.{u2}
use Rattle.cf_form.specs.declared.code.Code.{Code}
use Rattle.cf_form.specs.declared.code.Handler.{Handler}
use Rattle.cf_form.specs.declared.instr.Instr.{Instr}
use Rattle.cf_form.specs.declared.shape.Shape.{Shape}
use Rattle.cf_form.specs.declared.shape.Shape.TheVariants.{Plain, Signed1, Signed2, Pool1, Pool2, Local, Step, Jump2, Jump4, Face, Wide}
use Rattle.cf_form.specs.Opcodes.{shape_of}
use Rattle.cf_form.specs.Instructions.{operands, bytes_by, bytes_of, size, offset, jumps, with_offset, with_offsets, code_bytes}
use Rattle.cf_write.specs.Spelling.{handler_bytes, code_info}
use Rattle.cf_write.specs.Writable.{HandlerIsWithin}
use Rattle.cf_instr.specs.Offsets.{AreOffsets}
use Rattle.cf_write.specs.Offsets.{bytes_at, IsAmong}

-- an instruction begins before the end of the code
pub offset-le : (code : List Instr) (k : ℕ) → offset code k ≤ offset code (length code)
unfolding offset
offset-le code k =
    let whole = ap (sum_by size) (take-append-drop k code) in
    let parts = sum_by-append size (take k code) (drop k code) in
    let all = ap (sum_by size) (take_all (length code) code (omega arith)) in
    omega arith

-- operands take as many bytes, whatever they are
operands-length : (s : Shape) (w : Bool) (a b x : ℤ) → length (operands s w a b) ≡ length (operands s w x b)
operands-length Plain w a b x = refl
operands-length Signed1 w a b x = refl
operands-length Signed2 w a b x = refl
operands-length Pool1 w a b x = refl
operands-length Pool2 w a b x = refl
operands-length Local true a b x = refl
operands-length Local false a b x = refl
operands-length Step true a b x = refl
operands-length Step false a b x = refl
operands-length Jump2 w a b x = refl
operands-length Jump4 w a b x = refl
operands-length Face w a b x = refl
operands-length Wide w a b x = refl

by-length : (o : Option Shape) (op : ℕ) (w : Bool) (a b x : ℤ)
    → length (bytes_by o (record { op = op; wide = w; a = x; b = b })) ≡ length (bytes_by o (record { op = op; wide = w; a = a; b = b }))
by-length None op w a b x = refl
by-length (Some s) op true a b x = let e = operands-length s true a b x in omega arith
by-length (Some s) op false a b x = let e = operands-length s false a b x in omega arith

target-size : (op : ℕ) (w : Bool) (a b x : ℤ)
    → size (record { op = op; wide = w; a = x; b = b }) ≡ size (record { op = op; wide = w; a = a; b = b })
unfolding bytes_of
target-size op w a b x = by-length (shape_of op) op w a b x

offset-size : (code : List Instr) (at : ℕ) (i : Instr) (j : Bool) → jumps i ≡ j → size (with_offset code at i) ≡ size i
offset-size code at i true e = rw e (target-size i.op i.wide i.a i.b _)
offset-size code at i false e = rw e refl

offsets-size : (code : List Instr) (at : ℕ) (is : List Instr) → length (flat_map bytes_of (with_offsets code at is)) ≡ sum_by size is
offsets-size code at [] = refl
offsets-size code at (i ∷ is) =
    let here = offset-size code at i (jumps i) refl in
    let later = offsets-size code (at + size i) is in
    let both = length-append (bytes_of (with_offset code at i)) (flat_map bytes_of (with_offsets code (at + size i) is)) in
    let sum = sum_by-cons size i is in
    omega arith

-- the length of a code is where it ends
pub code-length : (code : List Instr) → length (code_bytes code) ≡ offset code (length code)
unfolding code_bytes offset
code-length code = offsets-size code 0 code ∙ ap (sum_by size) (sym (take_all (length code) code (omega arith)))

-- handlers by their offsets are handlers of the code
pub at_offsets : (code : List Instr) (starts : List ℕ) (h : Handler) → AreOffsets code starts → HandlerIsWithin (length code) h
    → bytes_at starts h ≡ handler_bytes code h
at_offsets code starts h p w =
    let from = p.each h.from w.0 in
    let to = p.each h.to w.1 in
    let target = p.each h.target w.2 in
    λ i. row_bytes (record { from = from i; to = to i; target = target i; class = h.class })

pub among : (code : List Instr) (starts : List ℕ) (h : Handler) → AreOffsets code starts → HandlerIsWithin (length code) h → IsAmong starts h
among code starts h p w = (omega (arith, p.many, w.0), omega (arith, p.many, w.1), omega (arith, p.many, w.2))

pub offsets_small : (code : List Instr) (starts : List ℕ) → AreOffsets code starts → offset code (length code) ≤ 65535
    → (k : ℕ) → k < length starts → get_or starts k 0 ≤ 65535
offsets_small code starts p m k l = omega (arith, p.each k (omega (arith, p.many)), offset-le code k)

-- what stands in a Code attribute, in bytes
handlers_length : (code : List Instr) (hs : List Handler) → length (flat_map (handler_bytes code) hs) ≡ 8 * length hs
handlers_length code [] = refl
handlers_length code (h ∷ hs) =
    let later = handlers_length code hs in
    let both = length-append (handler_bytes code h) (flat_map (handler_bytes code) hs) in
    omega arith

pub info_length : (code : Code) → length (code_info code) ≡ 12 + length (code_bytes code.instrs) + 8 * length code.handlers
unfolding code_info
info_length code =
    let handlers = handlers_length code.instrs code.handlers in
    let one = length-append (code_bytes code.instrs) (counted (handler_bytes code.instrs) code.handlers) in
    let all = length-append (code_bytes code.instrs ++ counted (handler_bytes code.instrs) code.handlers) (u2 0) in
    omega arith

pub end_is : (code : List Instr) (starts : List ℕ) → AreOffsets code starts → get_or starts (length code) 0 ≡ length (code_bytes code)
end_is code starts p = p.each (length code) (omega arith) ∙ sym (code-length code)
