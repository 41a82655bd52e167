-- What a call of the hub does, in every world that the hub stands in.
use Rattle.std.specs.Prelude.{ℕ, ◌≡◌, ◌++◌, List, flat_map, Option}
use Rattle.std.specs.Io.KnownBytes.{Appends}
use Rattle.nrm_edge.specs.Pieces.{AppendsFront}
use Rattle.nrm_frames.specs.Frames.{Frame}
use Rattle.nrm_frames.specs.Outgoing.{Output, output_text}
use Rattle.nrm_hub.specs.Hub.{HubValue}
use Rattle.nrm_hub.specs.World.{Comes, World}

-- the world goes on to one in which the hub stands, as these frames come and these are written
pub record GoesTo (w : World) (hub : HubValue) (inputs : List Frame) (outputs : List Output) : Type 0 where
  pub world : World
  pub comes : Comes w world
  pub stands : world.hub ≡ hub
  pub came : world.inputs ≡ w.inputs ++ inputs
  pub written : world.outputs ≡ w.outputs ++ outputs

abbrev pub Goes : HubValue → HubValue → List Frame → List Output → Type 0
Goes old new inputs outputs = (w : World) → w.hub ≡ old → GoesTo w new inputs outputs

-- frames were put as these came, and the hub stands in the world that comes of it; or a put failed, and a front of them went out
pub record Puts (old new : HubValue) (inputs : List Frame) (held held' : Option (List ℕ)) : Type 0 where
  pub outputs : List Output
  pub goes : Goes old new inputs outputs
  pub written : Appends held held' (flat_map output_text outputs)

pub record PutsCut (old new : HubValue) (inputs : List Frame) (held held' : Option (List ℕ)) : Type 0 where
  pub outputs : List Output
  pub goes : Goes old new inputs outputs
  pub front : AppendsFront held held' (flat_map output_text outputs)
