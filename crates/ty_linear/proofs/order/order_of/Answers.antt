use Rattle.std.proofs.Common.{◌≡◌, ◌<◌, ◌≤◌, ◌∙◌, sym, ap, subst, ℕ, Vec, List, ◌++◌, length, get_or, map, take, drop, arith}
use Rattle.std.specs.declared.alloc.Global.{Global}
use Rattle.std.proofs.lemmas.List.{length-map, get_or_read, take_at}
use Rattle.ty_linear.specs.Linear.{rows}
use Rattle.ty_linear.specs.Order.{count_of, IsReady}
use Rattle.ty_linear.proofs.Counts.{AreFewer}
use Rattle.ty_linear.proofs.Settled.{read_children, children_within, row_counts, settled_start, settled_more, settled_enough, settled_short, settled_order, settled_left}
use Rattle.ty_linear.proofs.order.order_of.Goals as goal

pub loop-number-init : goal.loop-number-init
loop-number-init c =
    let parents = rows c.args.parents.now in
    let counts : c.in_ok-waiting.waiting.items ≡ map (λ (ps : List ℕ). length ps) parents = c.in_ok-waiting.ensures ∙ sym (row_counts c.args.parents.now) in
    let ready : IsReady c.in_ok-waiting.waiting.items c.in_ok-order.order.items =
    subst (λ (w : List ℕ). IsReady w c.in_ok-order.order.items) c.deref.ensures.value c.in_ok-order.ensures in
    settled_start parents c.in_ok-waiting.waiting.items c.in_ok-order.order.items counts (ap length counts ∙ length-map parents (λ (ps : List ℕ). length ps)) ready

pub index-requires-in-loop-number : goal.index-requires-in-loop-number
index-requires-in-loop-number c =
    let parents = rows c.args.parents.now in
    let count : length parents ≡ length c.args.parents.now = length-map c.args.parents.now (λ (r : Vec ℕ Global). r.items) in
    let at = get_or_read c.loop-number.order.items c.loop-number.number c.index.result.now (omega arith) c.index.ensures 0 in
    let within = c.loop-number.invariant.ready.within c.loop-number.number 0 (omega arith) in
    let low : c.index.result.now < length c.in_ok-children.children.items =
    omega (arith, at, within, c.loop-number.invariant.long, count, c.in_ok-children.ensures.count) in
    omega (arith, low)

pub release-requires-clause-within : goal.release-requires-clause-within
release-requires-clause-within c =
    let parents = rows c.args.parents.now in
    let count : length parents ≡ length c.args.parents.now = length-map c.args.parents.now (λ (r : Vec ℕ Global). r.items) in
    let at = get_or_read c.loop-number.order.items c.loop-number.number c.index.result.now (omega arith) c.index.ensures 0 in
    let within = c.loop-number.invariant.ready.within c.loop-number.number 0 (omega arith) in
    let low : c.index.result.now < length c.in_ok-children.children.items =
    omega (arith, at, within, c.loop-number.invariant.long, count, c.in_ok-children.ensures.count) in
    let are = read_children parents c.in_ok-children.children.items c.loop-number.order.items c.deref-in-loop-number.result.now c.loop-number.number
    c.index.result.now c.index-in-loop-number.result.now c.in_ok-children.ensures.each at low c.index-in-loop-number.ensures c.deref-in-loop-number.ensures.value in
    let all = children_within parents c.deref-in-loop-number.result.now (get_or c.loop-number.order.items c.loop-number.number 0) are in
    let same = ap length c.deref_mut.ensures.value in
    λ k d h. let below = all k d h in omega (arith, below, same, c.loop-number.invariant.long)

pub release-requires-clause-enough : goal.release-requires-clause-enough
release-requires-clause-enough c =
    let parents = rows c.args.parents.now in
    let count : length parents ≡ length c.args.parents.now = length-map c.args.parents.now (λ (r : Vec ℕ Global). r.items) in
    let at = get_or_read c.loop-number.order.items c.loop-number.number c.index.result.now (omega arith) c.index.ensures 0 in
    let within = c.loop-number.invariant.ready.within c.loop-number.number 0 (omega arith) in
    let low : c.index.result.now < length c.in_ok-children.children.items =
    omega (arith, at, within, c.loop-number.invariant.long, count, c.in_ok-children.ensures.count) in
    let are = read_children parents c.in_ok-children.children.items c.loop-number.order.items c.deref-in-loop-number.result.now c.loop-number.number
    c.index.result.now c.index-in-loop-number.result.now c.in_ok-children.ensures.each at low c.index-in-loop-number.ensures c.deref-in-loop-number.ensures.value in
    let P : List ℕ → Type 0 = λ w. (class : ℕ) → class < length w → count_of c.deref-in-loop-number.result.now class ≤ get_or w class 0 in
    subst P (sym c.deref_mut.ensures.value) (settled_enough parents c.loop-number.waiting.items c.loop-number.order.items c.deref-in-loop-number.result.now
    c.loop-number.number c.loop-number.invariant (omega arith) are)

pub release-requires-clause-ready : goal.release-requires-clause-ready
release-requires-clause-ready c = rw c.deref_mut.ensures.value c.loop-number.invariant.ready

pub loop-number-smaller : goal.loop-number-smaller
loop-number-smaller c =
    let short = settled_short (rows c.args.parents.now) c.loop-number.waiting.items c.loop-number.order.items c.loop-number.number c.loop-number.invariant in
    let count : length (rows c.args.parents.now) ≡ length c.args.parents.now = length-map c.args.parents.now (λ (r : Vec ℕ Global). r.items) in
    omega (arith, short, count)

pub loop-number-preserved : goal.loop-number-preserved
loop-number-preserved c =
    let parents = rows c.args.parents.now in
    let count : length parents ≡ length c.args.parents.now = length-map c.args.parents.now (λ (r : Vec ℕ Global). r.items) in
    let at = get_or_read c.loop-number.order.items c.loop-number.number c.index.result.now (omega arith) c.index.ensures 0 in
    let within = c.loop-number.invariant.ready.within c.loop-number.number 0 (omega arith) in
    let low : c.index.result.now < length c.in_ok-children.children.items =
    omega (arith, at, within, c.loop-number.invariant.long, count, c.in_ok-children.ensures.count) in
    let are = read_children parents c.in_ok-children.children.items c.loop-number.order.items c.deref-in-loop-number.result.now c.loop-number.number
    c.index.result.now c.index-in-loop-number.result.now c.in_ok-children.ensures.each at low c.index-in-loop-number.ensures c.deref-in-loop-number.ensures.value in
    let long : length c.release.new.waiting ≡ c.loop-number.waiting.len = omega (arith, c.release.auto.waiting, c.deref_mut.ensures.len) in
    let same : take c.loop-number.waiting.len (c.release.new.waiting ++ drop (length c.release.new.waiting) c.loop-number.waiting.items) ≡ c.release.new.waiting
    = take_at c.release.new.waiting (drop (length c.release.new.waiting) c.loop-number.waiting.items) c.loop-number.waiting.len long in
    let fewer : AreFewer c.loop-number.waiting.items c.release.new.waiting c.deref-in-loop-number.result.now =
    subst (λ (w : List ℕ). AreFewer w c.release.new.waiting c.deref-in-loop-number.result.now) c.deref_mut.ensures.value c.in_ok-release.ensures.fewer in
    rw same (settled_more parents c.loop-number.waiting.items c.loop-number.order.items c.release.new.waiting c.release.new.ready.items
    c.in_ok-release.ensures.behind.0 c.deref-in-loop-number.result.now c.loop-number.number c.loop-number.invariant (omega arith) are fewer
    c.in_ok-release.ensures.ready c.in_ok-release.ensures.behind.1 (c.release.auto.waiting ∙ ap length c.deref_mut.ensures.value))

pub returns-clause-order : goal.returns-clause-order
returns-clause-order c = settled_order (rows c.args.parents.now) c.loop-number.waiting.items c.loop-number.order.items c.loop-number.number c.loop-number.invariant

pub returns-clause-distinct : goal.returns-clause-distinct
returns-clause-distinct c = c.loop-number.invariant.ready.distinct

pub returns-clause-left : goal.returns-clause-left
returns-clause-left c =
    settled_left (rows c.args.parents.now) c.loop-number.waiting.items c.loop-number.order.items c.loop-number.number (omega arith) c.loop-number.invariant
