-- The streams that a container keeps, and the memory that they have.
use Rattle.std.specs.Prelude.{ℕ, Vec, vec_capacity}
use Rattle.capture3.specs.declared.fault.Side.{Side}
use Rattle.capture3.specs.declared.fault.Side.TheVariants.{Client, Server}
use Rattle.capture3.specs.SidedChunks.{Streams}

-- the streams, and how many bytes of each fit before its memory has to grow
pub record StreamsInMemory : Type 0 where
  pub kept : Streams
  pub client_capacity : ℕ
  pub server_capacity : ℕ

abbrev pub in_memory : {A : Type 0} → Vec ℕ A → Vec ℕ A → StreamsInMemory
in_memory client server = record {
  kept = record { client = client.items; server = server.items };
  client_capacity = vec_capacity client;
  server_capacity = vec_capacity server;
}

abbrev pub capacity_of : Side → StreamsInMemory → ℕ
capacity_of Client streams = streams.client_capacity
capacity_of Server streams = streams.server_capacity
