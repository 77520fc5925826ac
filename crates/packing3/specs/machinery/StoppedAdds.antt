-- What the adding of a pair writes, and what stops it.
use Rattle.std.specs.Prelude.{◌≡◌, ◌⊎◌, ℕ, List, Option, Result, Ok, Err}
use Rattle.capture3.specs.declared.fault.Error.{Error}
use Rattle.capture3.specs.declared.fault.Error.TheVariants as errors
use Rattle.capture3.specs.declared.fault.Place.TheVariants as places
use Rattle.xdr3.specs.declared.reason.Reason.TheVariants as reasons
use Rattle.capture3.specs.Capture.{max_connections}
use Rattle.packing3.specs.declared.packing.Packing.{Packing}
use Rattle.packing3.specs.Devices.{Sources}
use Rattle.packing3.specs.machinery.Streaming.{CaptureSoFar, HasConnection, StopsInConnection}

module _ {W : Type 0} where
  -- no connection has room, and nothing was read or written
  pub record IsFull (packing : Packing W) (sources : Sources) (old written : Option (List ℕ))
      (error : Error) : Type 0 where
    pub full : packing.connections ≡ max_connections
    pub is : error
        ≡ errors.Refused (record {
          place = places.File packing.extent.at;
          reason =
              reasons.TooManyConnections;
        })
    pub same_client : sources.client_after ≡ sources.client_before
    pub same_server : sources.server_after ≡ sources.server_before
    pub same_sink : written ≡ old

  -- a connection is written, or none has room, or an error came in it
  abbrev pub WritesPair : Packing W → Sources → (old new : CaptureSoFar)
      → Result (Unit {0}) Error → Type 0
  WritesPair packing sources old new (Ok done) = HasConnection sources old new
  WritesPair packing sources old new (Err error) =
      IsFull packing sources old.bytes new.bytes error
      ⊎ StopsInConnection sources old new.bytes error
