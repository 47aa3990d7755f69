-- What a rule begins with.
use Rattle.std.specs.Prelude.{Bool, ◌||◌}
use Rattle.sl_parse_expr.specs.declared.ahead.Ahead.{Ahead}
use Rattle.sl_parse_expr.specs.declared.ahead.Ahead.TheVariants as see
use Rattle.sl_parse_expr.specs.Ahead.{same}

-- an operator that may stand before its operand
abbrev pub begins_sign : Ahead → Bool
begins_sign o = same see.Minus o || same see.Sign o

-- an operator between two operands: a name or operator characters
abbrev pub is_operator : Ahead → Bool
is_operator o = same see.Id o || same see.Minus o || same see.Bar o || same see.Sign o || same see.Op o

-- a simple expression begins with it
abbrev pub begins_head : Ahead → Bool
begins_head o = same see.Literal o || same see.Id o || same see.This o || same see.Super o || same see.New o || same see.OpenParen o || same see.OpenBrace o

-- an expression begins with it
abbrev pub begins_expr : Ahead → Bool
begins_expr o = same see.If o || same see.While o || same see.Try o || same see.Throw o || begins_sign o || begins_head o

-- `val` or `var`
abbrev pub begins_binding : Ahead → Bool
begins_binding o = same see.Val o || same see.Var o

-- a statement begins with it
abbrev pub begins_stat : Ahead → Bool
begins_stat o = begins_binding o || begins_expr o
