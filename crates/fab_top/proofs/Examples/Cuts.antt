-- Words, files and answers of the command on failed cables.
use Rattle.std.proofs.Common.{◌≡◌, ℕ, List, [], ◌∷◌, codes, refl}
use Rattle.std.specs.Prelude.{Option, None, Some, Err, option_map, find}
use Rattle.std.specs.Fmt.{digits}
use Rattle.std.specs.Str.{bytes_eq}
use Rattle.fab_model.specs.Built.{topology_of}
use Rattle.fab_model.specs.Faults.{first_fault}
use Rattle.fab_netdiscover.specs.Fronts.{number_at, guid_at, port_at, name_at, name_of, description_at, address_in, address_behind_mark}
use Rattle.fab_netdiscover.specs.Lines.{line_kind, switch_head, adapter_head, optional_parts, cabled_at, port_line}
use Rattle.fab_netdiscover.specs.Reading.{lines_read, records_in}
use Rattle.fab_netdiscover.specs.Writing as net
use Rattle.fab_top.specs.declared.command.Command.TheVariants.{Cut}
use Rattle.fab_top.specs.Answer.{done, refused, unread}
use Rattle.fab_top.specs.Answers.{IsAnswer}
use Rattle.fab_top.specs.Files.{failed_in}
use Rattle.fab_top.specs.Seen.{seen, seen_failing}
use Rattle.fab_top.specs.Words.{command_of}

-- ---- words

two_words : command_of (codes "cut" ∷ codes "F" ∷ codes "X" ∷ []) ≡ Some (Cut 1 2)
two_words = refl

no_list : command_of (codes "cut" ∷ codes "F" ∷ []) ≡ None
no_list = refl

a_flag : command_of (codes "cut" ∷ codes "F" ∷ codes "--X" ∷ []) ≡ None
a_flag = refl

three_words : command_of (codes "cut" ∷ codes "F" ∷ codes "X" ∷ codes "Y" ∷ []) ≡ None
three_words = refl

-- ---- lists

second_line_bad : failed_in (codes "X") (codes "0x10 1\n0x11\n") ≡ Err (codes "X:2: bad line\n")
unfolding digits
second_line_bad = refl

-- ---- answers

-- two switches with two cables between them, and some lists
abbrev files : List (List ℕ × List ℕ)
files =
    (codes "F", codes "Switch 2 \"S-10\" # \"a\" lid 1 lmc 0\n[1] \"S-11\"[1]\n[2] \"S-11\"[2]\nSwitch 3 \"S-11\" # \"b\" lid 2 lmc 0\n[1] \"S-10\"[1]\n[2] \"S-10\"[2]\n")
    ∷ (codes "NONE", []) ∷ (codes "ONE", codes "0x11 2\n") ∷ (codes "BOTH", codes "0x11 2\n0x10 2\n# both ends of one cable\n")
    ∷ (codes "UNKNOWN", codes "0x10 1\n# a port with no cable\n0x11 3\n0x12 1\n") ∷ (codes "BAD", codes "0x12 1\n0x10 1 1\n") ∷ []

abbrev told : List ℕ → Option (List ℕ)
told name = option_map (λ file. file.1) (find (λ (file : List ℕ × List ℕ). bytes_eq file.0 name) files)

abbrev cut_by : List ℕ → List (List ℕ)
cut_by list = codes "cut" ∷ codes "F" ∷ list ∷ []

abbrev left_by_one : List ℕ
left_by_one = codes "Switch\t2 \"S-0000000000000010\"\t\t# \"a\" base port 0 lid 1 lmc 0\n[1]\t\"S-0000000000000011\"[1]\t\t# \"b\" lid 2\n\nSwitch\t3 \"S-0000000000000011\"\t\t# \"b\" base port 0 lid 2 lmc 0\n[1]\t\"S-0000000000000010\"[1]\t\t# \"a\" lid 1\n\n"

one_cut : IsAnswer (seen told (cut_by (codes "ONE"))) (done left_by_one)
unfolding number_at guid_at port_at name_at name_of description_at address_in address_behind_mark line_kind switch_head adapter_head optional_parts cabled_at port_line lines_read records_in first_fault topology_of net.text_of digits net.switch_text net.switch_head_text net.head_text net.name_text net.guid16 net.in_quotes net.address_text net.port_text net.far_end net.described net.channel_text
one_cut = refl

-- A cable that is named by both of its ends is one cable.
one_cut_by_both_ends : IsAnswer (seen told (cut_by (codes "BOTH"))) (done left_by_one)
unfolding number_at guid_at port_at name_at name_of description_at address_in address_behind_mark line_kind switch_head adapter_head optional_parts cabled_at port_line lines_read records_in first_fault topology_of net.text_of digits net.switch_text net.switch_head_text net.head_text net.name_text net.guid16 net.in_quotes net.address_text net.port_text net.far_end net.described net.channel_text
one_cut_by_both_ends = refl

-- Cables are counted from 1, and comments not at all.
unknown_cable : IsAnswer (seen told (cut_by (codes "UNKNOWN"))) (refused (codes "UNKNOWN: cable 2: not in the fabric\n"))
unfolding number_at guid_at port_at name_at name_of description_at address_in address_behind_mark line_kind switch_head adapter_head optional_parts cabled_at port_line lines_read records_in first_fault topology_of digits
unknown_cable = refl

-- A bad line comes before a cable that isn't in the fabric.
bad_line : IsAnswer (seen told (cut_by (codes "BAD"))) (refused (codes "BAD:2: bad line\n"))
unfolding number_at guid_at port_at name_at name_of description_at address_in address_behind_mark line_kind switch_head adapter_head optional_parts cabled_at port_line lines_read records_in first_fault topology_of digits
bad_line = refl

-- The list is fetched behind the fabric.
list_unread : IsAnswer (seen_failing told (cut_by (codes "ONE")) 2) (unread (codes "ONE"))
unfolding number_at guid_at port_at name_at name_of description_at address_in address_behind_mark line_kind switch_head adapter_head optional_parts cabled_at port_line lines_read records_in first_fault topology_of
list_unread = refl
