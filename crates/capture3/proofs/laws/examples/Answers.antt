use Rattle.capture3.proofs.Common.{◌≡◌, refl, Ok, reading_layout, reading, number, call_layout, start_of_type, reply_layout, arguments_of, results_of, judge_call, judge_reply, verdict}
use Rattle.record_mark.specs.RecordMark.{is_last, length_of}
use Rattle.rpc_head.specs.Shapes.{accept, call_head, credential, deny, message_start, reply_head, verifier}
use Rattle.procs3.specs.Table.{nfs_procedures}
use Rattle.capture3.specs.Examples.{null_capture, null_entries}
use Rattle.capture3.proofs.Lemmas.Container.BytesOf.{all_bytes, checked}
use Rattle.capture3.proofs.Lemmas.Files.Verdicts.{typed_from_verdict}
use Rattle.capture3.proofs.laws.examples.Goals as goal

null_typed : verdict null_capture ≡ Ok null_entries
unfolding number is_last length_of judge_call judge_reply reading reading_layout message_start
    call_layout start_of_type call_head reply_layout reply_head credential verifier accept
    deny arguments_of results_of nfs_procedures
null_typed = refl

pub returns : goal.returns
unfolding all_bytes
returns c = typed_from_verdict null_capture null_entries (checked null_capture refl) null_typed
