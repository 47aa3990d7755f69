-- Assignments, over values of every size.
use Rattle.std.proofs.Common.{◌≡◌, ◌≤◌, ◌+◌, ◌*◌, ℕ, [], ◌∷◌, refl, arith}
use Rattle.ty_prog.specs.declared.catch.Catch.TheOpen.{Expr-F}
use Rattle.ty_prog.specs.declared.prim_op.PrimOp.{PrimOp}
use Rattle.ty_room.specs.declared.size.Size.{Size}
use Rattle.ty_room.specs.Numbers.{operator_numbers}
use Rattle.ty_room.specs.Sizing.{nothing, beside, merged, node_size, behind, covered, heavier}
use Rattle.ty_room.specs.Forms.{tree, this, boxed, called, joined_texts}
use Rattle.ty_room.specs.Source.{ExprWorth, added, local_set, member_set, other_set, member_of}
use Rattle.ty_room.proofs.FormsWorth.{small, keeping_most, with_one, boxed_value, boxed_test, boxed_entries, one_arg_most, one_arg_entries, this_value, this_entries, read_value, read_entries, texts_most, texts_entries}

pub set_definition : (local n : ℕ) (e : Size) → ExprWorth n e → ExprWorth (n + 1) (local_set local e)
set_definition local n e x = with_one 5 1 n e (omega arith) (omega arith) x

pub set_of_local : (local n : ℕ) (e : Size) → ExprWorth n e → ExprWorth (n + 2) (local_set local e)
set_of_local local n e x = with_one 5 2 n e (omega arith) (omega arith) x

-- what a form takes over what its value takes
record More (bytes brought : ℕ) (made of : Size) : Type 0 where
  value : made.value ≤ of.value + bytes
  entries : made.entries ≤ of.entries + brought

-- what is set, by what is added to the value
by_more : (n own bytes entries : ℕ) (e made : Size) → ExprWorth n e → More bytes entries made e → bytes + 4 ≤ 31 * own → entries ≤ 5 * own → ExprWorth (n + own) (boxed made)
by_more n own bytes entries e made x more few fewer = record {
  bytes = omega (arith, boxed_value made, more.value, x.bytes, few);
  test = omega (arith, boxed_value made, boxed_test made);
  entries = omega (arith, boxed_entries made, more.entries, x.entries, fewer);
}

member_more : (bytes entries : ℕ) (made e : Size) → More bytes entries made e → More (bytes + 17) (entries + 4) (called this (made ∷ [])) e
member_more bytes entries made e h = record { value = omega (arith, one_arg_most this made, this_value, h.value); entries = omega (arith, one_arg_entries this made, this_entries, h.entries) }

local_more : (bytes entries local : ℕ) (made e : Size) → More bytes entries made e → More (bytes + 5) entries (tree (Expr-F.SetLocal local made)) e
unfolding beside node_size
local_more bytes entries local made e h = record { value = omega (arith, h.value); entries = omega (arith, h.entries) }

-- an operator and a text
added_more : (o : PrimOp) (read e : Size) → More (read.value + 25) read.entries (added o read e) e
unfolding beside node_size
added_more o read e =
    let f = small o in
    record {
      value = omega (arith, keeping_most (operator_numbers o) (beside (beside nothing read) e), f.bytes);
      entries = omega (arith, f.entries);
    }

text_more : (read e : Size) → More (read.value + 33) read.entries (joined_texts read e) e
text_more read e = record { value = omega (arith, texts_most read e); entries = omega (arith, texts_entries read e) }

same_more : (e : Size) → More 0 0 e e
same_more e = record { value = omega arith; entries = omega arith }

pub set_of_member : (n : ℕ) (e : Size) → ExprWorth n e → ExprWorth (n + 2) (member_set e)
set_of_member n e x = by_more n 2 17 4 e (called this (e ∷ [])) x (member_more 0 0 e e (same_more e)) (omega arith) (omega arith)

-- a local that is read
local_value : (local : ℕ) → (tree (Expr-F.Local local)).value ≡ 4
unfolding node_size
local_value local = refl

local_entries : (local : ℕ) → (tree (Expr-F.Local local)).entries ≡ 0
unfolding node_size
local_entries local = refl

pub set_added_to_local : (local n : ℕ) (o : PrimOp) (e : Size) → ExprWorth n e → ExprWorth (n + 2) (local_set local (added o (tree (Expr-F.Local local)) e))
set_added_to_local local n o e x =
    let read : Size = tree (Expr-F.Local local) in
    by_more n 2 (read.value + 25 + 5) read.entries e (tree (Expr-F.SetLocal local (added o read e))) x (local_more (read.value + 25) read.entries local (added o read e) e (added_more o read e)) (omega (arith, local_value local)) (omega (arith, local_entries local))

pub set_text_to_local : (local n : ℕ) (e : Size) → ExprWorth n e → ExprWorth (n + 2) (local_set local (joined_texts (tree (Expr-F.Local local)) e))
set_text_to_local local n e x =
    let read : Size = tree (Expr-F.Local local) in
    by_more n 2 (read.value + 33 + 5) read.entries e (tree (Expr-F.SetLocal local (joined_texts read e))) x (local_more (read.value + 33) read.entries local (joined_texts read e) e (text_more read e)) (omega (arith, local_value local)) (omega (arith, local_entries local))

pub set_added_to_member : (n : ℕ) (o : PrimOp) (e : Size) → ExprWorth n e → ExprWorth (n + 2) (member_set (added o (called this []) e))
set_added_to_member n o e x =
    let read : Size = called this [] in
    by_more n 2 (read.value + 25 + 17) (read.entries + 4) e (called this (added o read e ∷ [])) x (member_more (read.value + 25) read.entries (added o read e) e (added_more o read e)) (omega (arith, read_value)) (omega (arith, read_entries))

-- a member of another object, which stands in a local
member_of_value : (local : ℕ) → (member_of local).value ≡ 10
unfolding beside merged node_size
member_of_value local = refl

member_of_entries : (local : ℕ) → (member_of local).entries ≡ 4
unfolding beside merged node_size
member_of_entries local = refl

-- a block that sets a local first
record OtherSize (a made : Size) (set : Size) : Type 0 where
  value : set.value ≡ a.value + made.value + 11
  test : set.test ≡ set.value + 2
  entries : set.entries ≡ a.entries + made.entries

other_size : (local : ℕ) (a made : Size) → OtherSize a made (heavier 1 (boxed (tree (Expr-F.Block (tree (Expr-F.SetLocal local a) ∷ made ∷ [])))))
unfolding beside node_size behind covered heavier
other_size local a made = record { value = omega arith; test = omega arith; entries = omega arith }

other_set_worth : (local n m bytes entries : ℕ) (a e made : Size) → ExprWorth n a → ExprWorth m e → More bytes entries made e → bytes ≤ 43 → entries ≤ 4 → ExprWorth (n + m + 2) (other_set local a made)
other_set_worth local n m bytes entries a e made x y more few fewer =
    let read : Size = tree (Expr-F.Local local) in
    let size = other_size local a (called read (made ∷ [])) in
    record {
      bytes = omega (arith, size.value, one_arg_most read made, local_value local, more.value, few, x.bytes, y.bytes);
      test = omega (arith, size.test);
      entries = omega (arith, size.entries, one_arg_entries read made, local_entries local, more.entries, fewer, x.entries, y.entries);
    }

pub set_added_to_other : (local n m : ℕ) (o : PrimOp) (a e : Size) → ExprWorth n a → ExprWorth m e → ExprWorth (n + m + 2) (other_set local a (added o (member_of local) e))
set_added_to_other local n m o a e x y =
    let read : Size = member_of local in
    other_set_worth local n m (read.value + 25) read.entries a e (added o read e) x y (added_more o read e) (omega (arith, member_of_value local)) (omega (arith, member_of_entries local))

pub set_text_to_other : (local n m : ℕ) (a e : Size) → ExprWorth n a → ExprWorth m e → ExprWorth (n + m + 2) (other_set local a (joined_texts (member_of local) e))
set_text_to_other local n m a e x y =
    let read : Size = member_of local in
    other_set_worth local n m (read.value + 33) read.entries a e (joined_texts read e) x y (text_more read e) (omega (arith, member_of_value local)) (omega (arith, member_of_entries local))
