-- Which connections are chosen.
use Rattle.std.specs.Prelude.{◌≡◌, ◌⊎◌, ℕ, ◌+◌, Bool, ◌||◌, nat_eq, List, [], ◌∷◌, Option, None, Some, drop, IsTrue}
use Rattle.std.specs.List.{list_any}
use Rattle.capture3.specs.declared.fault.Side.TheVariants.{Client}
use Rattle.connections3.specs.declared.connection.Connection.{Connection}
use Rattle.connections3.specs.declared.connection.Flow.{Flow}
use Rattle.connections3.specs.declared.ends.EndPair.{EndPair}
use Rattle.streams3.specs.declared.segments.Mark.{Mark}
use Rattle.streams3.specs.Content.{AreStreamBytes}
use Rattle.streams3.specs.Streams.{Shown}
use Rattle.conversion3.specs.Whole.{side_flow}

-- the ports of NFS (RFC 1813), of MOUNT, and of the port mapper (RFC 1833)
abbrev pub usual_ports : List ℕ
usual_ports = 2049 ∷ 20048 ∷ 111 ∷ []

-- an end has one of the ports
abbrev pub has_port : (ports : List ℕ) → EndPair → Bool
has_port ports ends = list_any (λ port. nat_eq port ends.lower.port) ports
    || list_any (λ port. nat_eq port ends.higher.port) ports

-- the words 0 (CALL) and 2 (the version of RPC) (RFC 5531, section 9)
abbrev pub call_words : List ℕ
call_words = 0 ∷ 0 ∷ 0 ∷ 0 ∷ 0 ∷ 0 ∷ 0 ∷ 2 ∷ []

-- From where it begins a stream has a record mark (RFC 5531, section 11), an xid, and these words.
pub record BeginsWithCall (file : List ℕ) (stream : Shown) : Type 0 where
  pub begin : Mark
  pub begun : stream.marks.begin ≡ Some begin
  pub head : List ℕ
  pub bytes : AreStreamBytes file stream.log begin.position (begin.position + 16) head
  pub words : drop 8 head ≡ call_words

abbrev pub BeginsFlowWithCall : (file : List ℕ) → Option Flow → Type 0
BeginsFlowWithCall file None = ⊥
BeginsFlowWithCall file (Some flow) = BeginsWithCall file flow.stream

-- An end has one of the ports. If none is named, it has a usual one, or the client begins with a
-- call.
abbrev pub IsChosen : (file ports : List ℕ) → Connection → Type 0
IsChosen file [] c = IsTrue (has_port usual_ports c.ends)
    ⊎ BeginsFlowWithCall file (side_flow c Client)
IsChosen file (port ∷ ports) c = IsTrue (has_port (port ∷ ports) c.ends)
