-- The texts of replies. Each ends with a line feed.
use Rattle.std.specs.Prelude.{◌≡◌, ℕ, List, ◌++◌, length, flat_map, codes}
use Rattle.std.specs.List.{enumerate_from}
use Rattle.fab_model.specs.Topology.{Topology}
use Rattle.fab_tables.specs.LaneTables.{LaneTables}
use Rattle.fab_dump.specs.Writing.{hex4}
use Rattle.fab_replies.specs.declared.replied.Replied.{Replied}
use Rattle.fab_replies.specs.declared.replied.Replied.TheVariants.{Numbers, Refused, BadLane, RingReplies}
use Rattle.fab_top.specs.ChangeTexts.{numbers_text}
use Rattle.fab_top.specs.Texts.{guid_text, verdict_text, ring_text, HasShortLanes}

abbrev pub replies_text : Topology → LaneTables → List ℕ
replies_text t l = codes "ok: replies\n" ++ flat_map (numbers_text t l) (enumerate_from 0 t.channels)

-- the reply to a LID, from another, that takes a bad lane at a switch
abbrev pub bad_reply_text : Topology → ℕ → ℕ → ℕ → List ℕ
bad_reply_text t lid from s =
    codes "no: reply to lid " ++ hex4 lid ++ codes " from lid " ++ hex4 from ++ codes ": bad lane at switch " ++ guid_text t s ++ codes "\n"

-- numbers, where they are said, are those of each channel, and the lanes that a verdict names have at most two digits
abbrev pub CanBeTold : Topology → Replied → Type 0
CanBeTold t (Numbers l) = l.channels ≡ length t.channels
CanBeTold t (Refused fault) = HasShortLanes fault
CanBeTold t other = Unit {0}

-- what is said of the replies of a plan with so many lanes
abbrev pub replied_text : Topology → ℕ → Replied → List ℕ
replied_text t count (Numbers l) = replies_text t l
replied_text t count (Refused fault) = verdict_text t fault
replied_text t count (BadLane lid from at) = bad_reply_text t lid.0 from.0 at.0
replied_text t count (RingReplies ring) = ring_text t count ring
