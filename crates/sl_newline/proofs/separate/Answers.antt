use Rattle.std.proofs.Common.{◌≡◌, ℕ, List, Some, None, sym, subst}
use Rattle.std.specs.Option.{option_copied}
use Rattle.sl_newline.specs.Regions.{head, Sep}
use Rattle.sl_newline.proofs.Opened.{started}
use Rattle.sl_newline.proofs.Turn.{turn, at_end}
use Rattle.sl_newline.proofs.separate.Goals as goal

pub turn-init : goal.turn-init
turn-init c = rw (c.new-open.ensures, c.new-left.ensures, c.new-found.ensures.items) (started c.args.tokens.now, λ out i. i)

pub turn-preserved : goal.turn-preserved
turn-preserved c =
    let here : head c.turn.left ≡ Some c.in-Some.token.now = sym c.in-Some.ensures in
    rw (c.in_ok-step.ensures.ok, c.in_ok-push.ensures, c.in_ok-put_before.ensures.ok, c.in_ok-copy_token.ensures, c.shape.ensures, c.shape-in-Some.ensures, c.shape-in-Some-2.ensures, c.front.ensures, c.skip.ensures)
    (turn c.as_slice-chars.result.now c.args.tokens.now c.turn.open c.turn.left c.turn.found.items (option_copied c.turn.last) c.in-Some.token.now c.turn.invariant here)

pub returns : goal.returns
returns c =
    subst (λ (z : List ℕ). Sep z c.args.tokens.now None c.args.tokens.now c.turn.found.items) c.as_slice-chars.ensures.value
    (at_end c.as_slice-chars.result.now c.args.tokens.now c.turn.open c.turn.left c.turn.found.items (option_copied c.turn.last) c.turn.invariant (sym c.in_default.ensures))
