-- Lines and words worked by hand, against the definitions.
use Rattle.std.proofs.Common.{◌≡◌, true, [], ◌∷◌, refl, Some, None, Ok, Err}
use Rattle.std.specs.Prelude.{codes}
use Rattle.console_operand.specs.Number.{number_of, byte_of, hex_byte_of}
use Rattle.console_operand.specs.Line.{lines_of}
use Rattle.bt_syntax.specs.Steps.{line_read}
use Rattle.console_operand.specs.declared.reference.Reference.TheVariants.{Id, Pinned}
use Rattle.console_operand.specs.declared.value.Value.TheVariants.{Object}
use Rattle.console_map_syntax.specs.declared.command.MapCommand.TheVariants as m
use Rattle.bt_syntax.specs.declared.prog.command.ProgCommand.TheVariants as p
use Rattle.bt_syntax.specs.declared.net.command.NetCommand.TheVariants as n
use Rattle.bt_syntax.specs.declared.journal.JournalCommand.TheVariants as j
use Rattle.bt_syntax.specs.declared.command.Command.TheVariants as c
use Rattle.bt_syntax.specs.declared.fault.SyntaxFault.TheVariants.{At}

an_unknown_word : line_read (codes "map creat /x") ≡ Err (At 2)
an_unknown_word = refl

no_byte : line_read (codes "map lookup id 1 key 256") ≡ Err (At 6)
no_byte = refl

an_early_end : line_read (codes "map lookup id") ≡ Err (At 4)
an_early_end = refl

a_comment_in_a_word : line_read (codes "map lookup id 0x1F#1") ≡ Ok (Some (c.Map (m.Lookup (Id 31) None)))
a_comment_in_a_word = refl

a_hex_key : line_read (codes "map lookup id 1 key hex 0a 0x0A FF") ≡ Ok (Some (c.Map (m.Lookup (Id 1) (Some (10 ∷ 10 ∷ 255 ∷ [])))))
a_hex_key = refl

a_pin : line_read (codes "map pin pinned /m /n") ≡ Ok (Some (c.Map (m.Pin (Pinned (codes "/m")) (codes "/n"))))
a_pin = refl

a_pin_that_goes : line_read (codes "unpin /n") ≡ Ok (Some (c.Unpin (codes "/n")))
a_pin_that_goes = refl

a_pushed_object : line_read (codes "map push id 1 value id 2") ≡ Ok (Some (c.Map (m.Push (Id 1) (Object (Id 2)))))
a_pushed_object = refl

a_listed_program : line_read (codes "prog list pinned /p") ≡ Ok (Some (c.Prog (p.Show (Some (Pinned (codes "/p"))))))
a_listed_program = refl

a_program_in_place_of_another : line_read (codes "net attach xdp id 1 dev eth0 overwrite") ≡ Ok (Some (c.Net (n.Attach (Id 1) (codes "eth0") true)))
a_program_in_place_of_another = refl

a_mark : line_read (codes " journal mark a ") ≡ Ok (Some (c.Journal (j.Mark (codes "a"))))
a_mark = refl

a_listed_journal : line_read (codes "journal list") ≡ Ok (Some (c.Journal j.List))
a_listed_journal = refl

a_change_taken_out : line_read (codes "journal without 0xffffffffffffffff") ≡ Ok (Some (c.Journal (j.Without 18446744073709551615)))
a_change_taken_out = refl

too_great_a_serial : line_read (codes "journal without 18446744073709551616") ≡ Err (At 3)
too_great_a_serial = refl

no_words : line_read (codes " # map lookup id 1") ≡ Ok None
no_words = refl

an_octal_number : number_of (codes "010") ≡ Some 8
an_octal_number = refl

no_octal_digit : number_of (codes "08") ≡ None
no_octal_digit = refl

no_hexadecimal_digit : number_of (codes "0x") ≡ None
no_hexadecimal_digit = refl

too_great_a_number : number_of (codes "4294967296") ≡ None
too_great_a_number = refl

a_hexadecimal_byte : hex_byte_of (codes "00a") ≡ Some 10
a_hexadecimal_byte = refl

too_great_a_byte : byte_of (codes "0400") ≡ None
too_great_a_byte = refl

-- `a`, CR, CR, LF, `b`
one_carriage_return : lines_of (97 ∷ 13 ∷ 13 ∷ 10 ∷ 98 ∷ []) ≡ (97 ∷ 13 ∷ []) ∷ (98 ∷ []) ∷ []
one_carriage_return = refl
