-- The context of an XDP program, struct xdp_md (include/uapi/linux/bpf.h), by the offsets of its fields.
use Rattle.std.specs.Prelude.{ℕ, ◌==◌, if◌then◌else◌, Option, Some, None}
use Rattle.program_machine.specs.Held.{Held, Number, Pointer, Frame}

-- data, data_end, data_meta, ingress_ifindex, rx_queue_index
abbrev pub field_at : ℕ → ℕ → ℕ → Option Held
field_at size ifindex offset =
    if offset == 0 then Some (Pointer Frame 0) else
    if offset == 4 then Some (Pointer Frame size) else
    if offset == 8 then Some (Pointer Frame 0) else
    if offset == 12 then Some (Number ifindex) else
    if offset == 16 then Some (Number 0) else None
