-- What begins at a character, by the one behind it (SLS 1).
use Rattle.std.specs.Prelude.{ℕ, ◌+◌, ◌==◌, ◌&&◌, Option, Some, None, codes, position, if◌then◌else◌}
use Rattle.std.specs.Char.{is_ascii_whitespace, is_ascii_digit}
use Rattle.unicode_ident.specs.Ident.{is_xid_start, is_xid_continue}
use Rattle.sl_lexer.specs.Characters.{is, holds, is_operator}
use Rattle.sl_lexer.specs.declared.class.Class.{Class}
use Rattle.sl_lexer.specs.declared.class.Class.TheVariants as class

-- white space is space, tab, LF, FF and CR
abbrev pub plain : ℕ → Class
plain c =
    if is_ascii_whitespace c then class.White else
    (if is_ascii_digit c then class.Digit else
    (if is_operator c then class.Operator else
    (if is_xid_start c then class.Word else class.Other)))

-- the marks of one character that are no operators, from the tenth on
abbrev pub single : ℕ → Option ℕ
single c = position (λ d. d == c) (codes "()[]{},;.")

-- such a mark, or the class of its character
abbrev pub by_single : ℕ → Option ℕ → Class
by_single c None = plain c
by_single c (Some i) = class.Single (10 + i)

-- the class of a character with the one behind it
abbrev pub class_of : ℕ → Option ℕ → Class
class_of c next =
    if (c == 47) && is 47 next then class.LineComment else
    (if (c == 47) && is 42 next then class.BlockComment else
    (if c == 36 then class.Dollar else
    (if c == 34 then class.Quote else
    (if c == 95 then (if holds is_xid_continue next then class.Word else class.Underscore) else
    by_single c (single c)))))
