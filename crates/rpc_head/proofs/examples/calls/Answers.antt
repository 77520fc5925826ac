use Rattle.rpc_head.proofs.Common.{refl, reading_layout, reading, call_layout, start_of_type}
use Rattle.rpc_head.specs.Shapes.{auth_sys, call_head, credential, gids, parameters, verifier}
use Rattle.xdr3.specs.Shape.{array_named}
use Rattle.rpc_head.proofs.examples.calls.Goals as goal

pub returns : goal.returns
unfolding reading reading_layout call_layout start_of_type call_head credential verifier auth_sys
    parameters gids array_named
returns c = record { no_arguments = refl; one_argument = refl; by_system = refl; no_reply = refl }
