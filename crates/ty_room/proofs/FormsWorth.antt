-- Forms of source over parts of every size, and lists of every length.
use Rattle.std.proofs.Common.{◌≡◌, ◌≤◌, ◌+◌, ◌*◌, ℕ, Bool, true, false, nat_eq, nat_le, if◌then◌else◌, List, [], ◌∷◌, fold, length, refl, sym, subst, arith}
use Rattle.std.proofs.lemmas.Grind.{common_steps}
use Rattle.ty_prog.specs.declared.catch.Catch.TheOpen.{Expr-F}
use Rattle.ty_prog.specs.declared.prim_op.PrimOp.{PrimOp}
use Rattle.ty_prog.specs.declared.prim_op.PrimOp.TheVariants as op
use Rattle.ty_room.specs.declared.size.Size.{Size}
use Rattle.ty_room.specs.declared.numbers.Numbers.{Numbers}
use Rattle.ty_room.specs.Numbers.{form, operation, deciding, making, kept_bytes, operator_numbers}
use Rattle.ty_room.specs.Sizing.{nothing, beside, merged, together, keeping, node_size, choice_size, loop_size, behind, covered, closed}
use Rattle.ty_room.specs.Forms.{tree, this, boxed, called, applied, joined_texts}
use Rattle.ty_room.specs.Source.{all_nodes, Worth, ExprWorth, AllWorth, text_added}
use Rattle.ty_room.proofs.Rows.{from_start}

-- operands take eight bytes each at most
kept_by : (few two : Bool) (all : ℕ) → (two ≡ true → 10 ≤ all) → (if few then 0 else (if two then 10 else all)) ≤ all
kept_by true two all h = omega arith
kept_by false true all h = h refl
kept_by false false all h = omega arith

two_operands : (all : ℕ) → nat_eq all 16 ≡ true → 10 ≤ all
two_operands all e = grind (arith, common_steps)

kept_most : (all : ℕ) → kept_bytes all ≤ all
kept_most all = kept_by (nat_le all 8) (nat_eq all 16) all (two_operands all)

keeping_from : (keeps none : Bool) (all : ℕ) → (if keeps then (if none then 0 else kept_bytes all) else 0) ≤ all
keeping_from false none all = omega arith
keeping_from true true all = omega arith
keeping_from true false all = kept_most all

pub keeping_most : (f : Numbers) (parts : Size) → keeping f parts ≤ parts.kept + f.more
keeping_most f parts = keeping_from f.keeps (nat_eq parts.tries 0) (parts.kept + f.more)

record Summed (part : Size) (parts : List Size) : Type 0 where
  value : (together (part ∷ parts)).value ≡ part.value + (together parts).value
  kept : (together (part ∷ parts)).kept ≡ 8 + (together parts).kept
  entries : (together (part ∷ parts)).entries ≡ part.entries + (together parts).entries

summed : (part : Size) (parts : List Size) → Summed part parts
unfolding beside
summed part parts =
    let x = from_start parts (beside nothing part) in
    record { value = omega (arith, x.value); kept = omega (arith, x.kept); entries = omega (arith, x.entries) }

-- so much for each part
abbrev pub total : ℕ → List Size → ℕ
total n [] = 0
total n (part ∷ parts) = n + total n parts

-- all of some parts, by all their nodes
pub record AllSum (spare left : ℕ) (ns : List ℕ) (parts : List Size) : Type 0 where
  pub bytes : (together parts).value + total spare parts ≤ 31 * all_nodes ns
  pub kept : (together parts).kept ≡ total 8 parts
  pub entries : (together parts).entries + total left parts ≤ 5 * all_nodes ns

pub all_sum : (spare left : ℕ) (ns : List ℕ) (parts : List Size) → AllWorth (Worth spare left) ns parts → AllSum spare left ns parts
all_sum spare left [] [] h = record { bytes = omega arith; kept = refl; entries = omega arith }
all_sum spare left (n ∷ ns) (part ∷ parts) h =
    let rest = all_sum spare left ns parts h.1 in
    let sums = summed part parts in
    record { bytes = omega (arith, rest.bytes, sums.value, h.0.bytes); kept = omega (arith, rest.kept, sums.kept); entries = omega (arith, rest.entries, sums.entries, h.0.entries) }
all_sum spare left [] (part ∷ parts) h = elim h [ ]
all_sum spare left (n ∷ ns) [] h = elim h [ ]

thirteens : (parts : List Size) → total 13 parts ≡ 13 * length parts
thirteens [] = refl
thirteens (part ∷ parts) = omega (arith, thirteens parts)

eights : (parts : List Size) → total 8 parts ≡ 8 * length parts
eights [] = refl
eights (part ∷ parts) = omega (arith, eights parts)

ones : (parts : List Size) → total 1 parts ≡ length parts
ones [] = refl
ones (part ∷ parts) = omega (arith, ones parts)

-- operands, by all their nodes
pub record Operands (nodes count : ℕ) (parts : Size) : Type 0 where
  pub bytes : parts.value + 13 * count ≤ 31 * nodes
  pub kept : parts.kept ≡ 8 * count
  pub entries : parts.entries + count ≤ 5 * nodes

pub operands : (ns : List ℕ) (parts : List Size) → AllWorth ExprWorth ns parts → Operands (all_nodes ns) (length parts) (together parts)
operands ns parts h =
    let s = all_sum 13 1 ns parts h in
    record { bytes = omega (arith, s.bytes, thirteens parts); kept = omega (arith, s.kept, eights parts); entries = omega (arith, s.entries, ones parts) }

pub operation_by : (f : Numbers) (own nodes count : ℕ) (parts : Size) → Operands nodes count parts → f.jump ≤ f.bytes + 3 → f.bytes + f.more + 17 ≤ 31 * own + 5 * count
    → f.entries + 1 ≤ 5 * own + count → ExprWorth (nodes + own) (boxed (node_size f parts))
unfolding beside node_size
operation_by f own nodes count parts h jump bytes entries =
    let most = keeping_most f parts in
    record { bytes = omega (arith, most, h.bytes, h.kept); test = omega arith; entries = omega (arith, h.entries) }

with_object : (n nodes count : ℕ) (of args : Size) → ExprWorth n of → Operands nodes count args → Operands (n + nodes) (count + 1) (merged (beside nothing of) args)
unfolding beside merged
with_object n nodes count of args o h = record { bytes = omega (arith, o.bytes, h.bytes); kept = omega (arith, h.kept); entries = omega (arith, o.entries, h.entries) }

pub a_call : (n : ℕ) (of : Size) (ns : List ℕ) (args : List Size) → ExprWorth n of → AllWorth ExprWorth ns args → ExprWorth (n + all_nodes ns + 1) (boxed (called of args))
a_call n of ns args o h = operation_by (operation 6 4) 1 (n + all_nodes ns) (length args + 1) (merged (beside nothing of) (together args)) (with_object n (all_nodes ns) (length args) of (together args) o (operands ns args h)) (omega arith) (omega arith) (omega arith)

pub record Small (f : Numbers) : Type 0 where
  pub jump : f.jump ≤ f.bytes + 3
  pub bytes : f.bytes + f.more ≤ 9
  pub entries : f.entries ≡ 0

pub small : (o : PrimOp) → Small (operator_numbers o)
small op.Add = record { jump = omega arith; bytes = omega arith; entries = refl }
small op.Sub = record { jump = omega arith; bytes = omega arith; entries = refl }
small op.Mul = record { jump = omega arith; bytes = omega arith; entries = refl }
small op.Div = record { jump = omega arith; bytes = omega arith; entries = refl }
small op.Rem = record { jump = omega arith; bytes = omega arith; entries = refl }
small op.And = record { jump = omega arith; bytes = omega arith; entries = refl }
small op.Or = record { jump = omega arith; bytes = omega arith; entries = refl }
small op.Xor = record { jump = omega arith; bytes = omega arith; entries = refl }
small op.Shl = record { jump = omega arith; bytes = omega arith; entries = refl }
small op.Shr = record { jump = omega arith; bytes = omega arith; entries = refl }
small op.Ushr = record { jump = omega arith; bytes = omega arith; entries = refl }
small op.Less = record { jump = omega arith; bytes = omega arith; entries = refl }
small op.AtMost = record { jump = omega arith; bytes = omega arith; entries = refl }
small op.Greater = record { jump = omega arith; bytes = omega arith; entries = refl }
small op.AtLeast = record { jump = omega arith; bytes = omega arith; entries = refl }
small op.Not = record { jump = omega arith; bytes = omega arith; entries = refl }
small op.Same = record { jump = omega arith; bytes = omega arith; entries = refl }
small op.Concat = record { jump = omega arith; bytes = omega arith; entries = refl }
small op.Length = record { jump = omega arith; bytes = omega arith; entries = refl }
small op.IsEmpty = record { jump = omega arith; bytes = omega arith; entries = refl }
small op.Equals = record { jump = omega arith; bytes = omega arith; entries = refl }
small op.ToString = record { jump = omega arith; bytes = omega arith; entries = refl }
small op.ClassName = record { jump = omega arith; bytes = omega arith; entries = refl }
small op.Evaluating = record { jump = omega arith; bytes = omega arith; entries = refl }
small op.NullValue = record { jump = omega arith; bytes = omega arith; entries = refl }

pub an_operation : (o : PrimOp) (ns : List ℕ) (args : List Size) → AllWorth ExprWorth ns args → ExprWorth (all_nodes ns + 1) (boxed (tree (Expr-F.Prim o args)))
an_operation o ns args h =
    let f = small o in
    operation_by (operator_numbers o) 1 (all_nodes ns) (length args) (together args) (operands ns args h) f.jump (omega (arith, f.bytes)) (omega (arith, f.entries))

plain_by : (f : Numbers) (own nodes count : ℕ) (parts : Size) → Operands nodes count parts → f.jump ≤ f.bytes + 3 → f.bytes + f.more + 13 ≤ 31 * own + 5 * count
    → f.entries + 1 ≤ 5 * own + count → ExprWorth (nodes + own) (node_size f parts)
unfolding node_size
plain_by f own nodes count parts h jump bytes entries =
    let most = keeping_most f parts in
    record { bytes = omega (arith, most, h.bytes, h.kept); test = omega arith; entries = omega (arith, h.entries) }

pub a_new : (ns : List ℕ) (args : List Size) → AllWorth ExprWorth ns args → ExprWorth (all_nodes ns + 1) (applied args)
a_new ns args h = plain_by (making 7 3 0) 1 (all_nodes ns) (length args) (together args) (operands ns args h) (omega arith) (omega arith) (omega arith)

pub a_super_call : (ns : List ℕ) (args : List Size) → AllWorth ExprWorth ns args → ExprWorth (all_nodes ns + 2) (boxed (tree (Expr-F.SuperCall 0 [] args)))
a_super_call ns args h = operation_by (making 10 4 1) 2 (all_nodes ns) (length args) (together args) (operands ns args h) (omega arith) (omega arith) (omega arith)

pub more_nodes : (n m : ℕ) (size : Size) → n ≤ m → ExprWorth n size → ExprWorth m size
more_nodes n m size le h = record { bytes = omega (arith, h.bytes); test = h.test; entries = omega (arith, h.entries) }

own_object : (nodes count : ℕ) (args : Size) → Operands nodes count args → Operands (nodes + 1) (count + 1) (merged (beside nothing this) args)
unfolding beside merged node_size
own_object nodes count args h = record { bytes = omega (arith, h.bytes); kept = omega (arith, h.kept); entries = omega (arith, h.entries) }

pub an_own_call : (ns : List ℕ) (args : List Size) → AllWorth ExprWorth ns args → ExprWorth (all_nodes ns + 2) (boxed (called this args))
an_own_call ns args h =
    more_nodes (all_nodes ns + 1 + 1) (all_nodes ns + 2) (boxed (called this args)) (omega arith)
    (operation_by (operation 6 4) 1 (all_nodes ns + 1) (length args + 1) (merged (beside nothing this) (together args)) (own_object (all_nodes ns) (length args) (together args) (operands ns args h)) (omega arith) (omega arith) (omega arith))

pub a_choice : (n m l : ℕ) (c a b : Size) → ExprWorth n c → ExprWorth m a → ExprWorth l b → ExprWorth (n + m + l + 1) (boxed (tree (Expr-F.If c a b)))
unfolding beside node_size choice_size
a_choice n m l c a b x y z = record { bytes = omega (arith, x.bytes, y.bytes, z.bytes, x.test); test = omega arith; entries = omega (arith, x.entries, y.entries, z.entries) }

pub a_loop : (n m : ℕ) (c b : Size) → ExprWorth n c → ExprWorth m b → ExprWorth (n + m + 1) (boxed (tree (Expr-F.While c b)))
unfolding beside node_size loop_size
a_loop n m c b x y = record { bytes = omega (arith, x.bytes, y.bytes, x.test); test = omega arith; entries = omega (arith, x.entries, y.entries) }

-- two operands take ten bytes
ten_most : (keeps none : Bool) → (if keeps then (if none then 0 else 10) else 0) ≤ 10
ten_most false none = omega arith
ten_most true true = omega arith
ten_most true false = omega arith

two_kept : (f : Numbers) (parts : Size) (kept : ℕ) → parts.kept ≡ kept → kept ≡ 16 → f.more ≡ 0 → keeping f parts ≤ 10
two_kept f parts kept e sixteen more =
    let all : 16 ≡ parts.kept + f.more = omega (arith, e, sixteen, more) in
    subst (λ k. (if f.keeps then (if nat_eq parts.tries 0 then 0 else kept_bytes k) else 0) ≤ 10) all (ten_most f.keeps (nat_eq parts.tries 0))

two_node : (f : Numbers) (parts : Size) → parts.kept ≡ 16 → f.more ≡ 0 → (node_size f parts).value ≤ f.bytes + 10 + parts.value
unfolding node_size
two_node f parts kept more = omega (arith, two_kept f parts 16 kept refl more)

pair : (n m : ℕ) (a b : Size) → ExprWorth n a → ExprWorth m b → Operands (n + m) 2 (beside (beside nothing a) b)
unfolding beside
pair n m a b x y = record { bytes = omega (arith, x.bytes, y.bytes); kept = refl; entries = omega (arith, x.entries, y.entries) }

pub an_equal : (n m : ℕ) (a b : Size) → ExprWorth n a → ExprWorth m b → ExprWorth (n + m + 1) (boxed (tree (Expr-F.Equal a b)))
an_equal n m a b x y = operation_by (deciding 18 17) 1 (n + m) 2 (beside (beside nothing a) b) (pair n m a b x y) (omega arith) (omega arith) (omega arith)

pub with_one : (bytes own n : ℕ) (of : Size) → bytes + 4 ≤ 31 * own → 1 ≤ own → ExprWorth n of → ExprWorth (n + own) (boxed (node_size (form bytes 0) (beside nothing of)))
unfolding beside node_size
with_one bytes own n of few some x = record { bytes = omega (arith, x.bytes); test = omega arith; entries = omega (arith, x.entries) }

texts_parts : (a b : Size) → (beside (beside nothing (tree (Expr-F.TextOf a))) (tree (Expr-F.TextOf b))).value ≤ a.value + b.value + 20
unfolding beside node_size
texts_parts a b = omega arith

texts_kept : (a b : Size) → (beside (beside nothing a) b).kept ≡ 16
unfolding beside
texts_kept a b = refl

pub texts_most : (a b : Size) → (joined_texts a b).value ≤ a.value + b.value + 33
texts_most a b = omega (arith, two_node (operation 3 0) (beside (beside nothing (tree (Expr-F.TextOf a))) (tree (Expr-F.TextOf b))) (texts_kept (tree (Expr-F.TextOf a)) (tree (Expr-F.TextOf b))) refl, texts_parts a b)

pub texts_entries : (a b : Size) → (joined_texts a b).entries ≡ a.entries + b.entries
unfolding beside node_size
texts_entries a b = omega arith

texts_test : (a b : Size) → (joined_texts a b).test ≤ (joined_texts a b).value + 3
unfolding node_size
texts_test a b = omega arith

pub some_texts : (n m : ℕ) (a b : Size) → ExprWorth n a → ExprWorth m b → ExprWorth (n + m + 1) (joined_texts a b)
some_texts n m a b x y = record { bytes = omega (arith, texts_most a b, x.bytes, y.bytes); test = texts_test a b; entries = omega (arith, texts_entries a b, x.entries, y.entries) }

one_arg_kept : (of a : Size) → (merged (beside nothing of) (beside nothing a)).kept ≡ 16
unfolding beside merged
one_arg_kept of a = refl

one_arg_value : (of a : Size) → (merged (beside nothing of) (beside nothing a)).value ≡ of.value + a.value
unfolding beside merged
one_arg_value of a = omega arith

pub one_arg_most : (of a : Size) → (called of (a ∷ [])).value ≤ of.value + a.value + 16
one_arg_most of a = omega (arith, two_node (operation 6 4) (merged (beside nothing of) (beside nothing a)) (one_arg_kept of a) refl, one_arg_value of a)

pub one_arg_entries : (of a : Size) → (called of (a ∷ [])).entries ≡ of.entries + a.entries + 4
unfolding beside merged node_size
one_arg_entries of a = omega arith

pub read_value : (called this []).value ≡ 7
unfolding beside merged node_size
read_value = refl

pub read_entries : (called this []).entries ≡ 4
unfolding beside merged node_size
read_entries = refl

pub this_value : this.value ≡ 1
unfolding node_size
this_value = refl

pub this_entries : this.entries ≡ 0
unfolding node_size
this_entries = refl

pub boxed_value : (e : Size) → (boxed e).value ≡ e.value + 4
unfolding beside node_size
boxed_value e = omega arith

pub boxed_test : (e : Size) → (boxed e).test ≡ e.value + 7
unfolding beside node_size
boxed_test e = omega arith

pub boxed_entries : (e : Size) → (boxed e).entries ≡ e.entries
unfolding beside node_size
boxed_entries e = omega arith

pub a_text_added : (n : ℕ) (e : Size) → ExprWorth n e → ExprWorth (n + 2) (text_added e)
a_text_added n e h =
    let inner : Size = joined_texts (called this []) e in
    record {
      bytes = omega (arith, boxed_value (called this (inner ∷ [])), one_arg_most this inner, this_value, texts_most (called this []) e, read_value, h.bytes);
      test = omega (arith, boxed_value (called this (inner ∷ [])), boxed_test (called this (inner ∷ [])));
      entries = omega (arith, boxed_entries (called this (inner ∷ [])), one_arg_entries this inner, this_entries, texts_entries (called this []) e, read_entries, h.entries);
    }

-- a block: what isn't last is dropped by a byte
record Behind (before : Size) (ns : List ℕ) (es : List Size) : Type 0 where
  bytes : (fold behind before es).value + total 12 es ≤ before.value + before.kept + 31 * all_nodes ns
  test : (fold behind before es).test ≤ (fold behind before es).value + 3
  entries : (fold behind before es).entries + total 1 es ≤ before.entries + 5 * all_nodes ns

next_behind : (before e : Size) (n : ℕ) (ns : List ℕ) (es : List Size) → ExprWorth n e → Behind (behind before e) ns es → Behind before (n ∷ ns) (e ∷ es)
unfolding behind
next_behind before e n ns es x h = record { bytes = omega (arith, h.bytes, x.bytes); test = h.test; entries = omega (arith, h.entries, x.entries) }

behind_test : (before e : Size) → e.test ≤ e.value + 3 → (behind before e).test ≤ (behind before e).value + 3
unfolding behind
behind_test before e h = omega (arith, h)

all_behind : (ns : List ℕ) (es : List Size) (before : Size) → before.test ≤ before.value + 3 → AllWorth ExprWorth ns es → Behind before ns es
all_behind [] [] before t h = record { bytes = omega arith; test = t; entries = omega arith }
all_behind (n ∷ ns) (e ∷ es) before t h = next_behind before e n ns es h.0 (all_behind ns es (behind before e) (behind_test before e h.0.test) h.1)
all_behind [] (e ∷ es) before t h = elim h [ ]
all_behind (n ∷ ns) [] before t h = elim h [ ]

one_kept : (before e : Size) → (behind before e).kept ≡ 1
unfolding behind
one_kept before e = refl

covered_worth : (n : ℕ) (s : Size) → s.value + 13 ≤ 31 * n → s.test ≤ s.value + 3 → s.entries + 1 ≤ 5 * n → ExprWorth n (covered s)
unfolding covered
covered_worth n s bytes test entries = record { bytes = bytes; test = test; entries = entries }

kept_behind : (es : List Size) (before : Size) → before.kept ≡ 1 → (fold behind before es).kept ≡ 1
kept_behind [] before h = h
kept_behind (e ∷ es) before h = kept_behind es (behind before e) (one_kept before e)

closed_worth : (n : ℕ) (statements : Size) → statements.kept ≡ 1 → statements.value + 13 ≤ 31 * n → statements.test ≤ statements.value + 3 → statements.entries + 1 ≤ 5 * n → ExprWorth n (closed statements)
closed_worth n statements kept bytes test entries =
    subst (λ k. ExprWorth n (if nat_eq k 0 then node_size (form 1 0) nothing else covered statements)) (sym kept) (covered_worth n statements bytes test entries)

pub a_block : (n : ℕ) (e : Size) (ns : List ℕ) (es : List Size) → ExprWorth n e → AllWorth ExprWorth ns es → ExprWorth (n + all_nodes ns + 1) (tree (Expr-F.Block (e ∷ es)))
a_block n e ns es x h =
    let all = next_behind nothing e n ns es x (all_behind ns es (behind nothing e) (behind_test nothing e x.test) h) in
    closed_worth (n + all_nodes ns + 1) (fold behind (behind nothing e) es) (kept_behind es (behind nothing e) (one_kept nothing e)) (omega (arith, all.bytes)) all.test (omega (arith, all.entries))
