use Rattle.bpfcon.proofs.read_script.Goals as goal

pub returns-clause-ran : goal.returns-clause-ran
returns-clause-ran g c = record { read = c.in_ok-text.ensures.ran; files_read = rw c.as_slice.ensures.value at c.in_ok-files.ensures }
