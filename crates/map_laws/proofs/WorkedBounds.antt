-- Small facts of bounds, each worked out by hand beforehand: what is bounded, what is not, and what that keeps out.
use Rattle.std.proofs.Common.{◌≡◌, ℕ, false, ◌-◌, ◌<◌, ◌^◌, List, [], ◌∷◌, Some, None, refl, arith}
use Rattle.std.proofs.lemmas.List.Elements.{All-cons, All-nil, All-head}
use Rattle.bt_mapkind.specs.declared.exchange.Back.TheVariants.{Key as BackKey, Ends, Link as BackLink}
use Rattle.bt_mapkind.specs.declared.request.MapOp.TheVariants.{Update, Pop, SetLink}
use Rattle.bt_mapkind.specs.Bounds.{IsId, AreBounded, IsBoundedBack, IsBoundedOp}
use Rattle.bt_mapkind.specs.Bytes.{AreBytes}
use Rattle.bt_mapkind.specs.Contents.{Values, Slots}
use Rattle.bt_mapkind.specs.Index.{index_of}
use Rattle.map_laws.proofs.Bounded.{IsByte}

-- ---- bytes
all_bits : AreBytes (255 ∷ [])
all_bits = All-cons IsByte 255 [] (omega arith) (All-nil IsByte)

a_byte_of_9_bits_is_none : (rest : List ℕ) → AreBytes (256 ∷ rest) → ⊥
a_byte_of_9_bits_is_none rest b = too_large (All-head IsByte 256 rest b)
  where
    too_large : 256 < 256 → ⊥
    too_large b = absurd (omega arith)

a_value_of_bytes_is_bounded : AreBounded (Values ((255 ∷ []) ∷ []))
a_value_of_bytes_is_bounded = All-cons AreBytes (255 ∷ []) [] all_bits (All-nil AreBytes)

a_value_of_9_bits_is_not : AreBounded (Values ((256 ∷ []) ∷ [])) → ⊥
a_value_of_9_bits_is_not w = a_byte_of_9_bits_is_none [] (All-head AreBytes (256 ∷ []) [] w)

-- ---- ids
the_last_id : IsId (2 ^ 32 - 1)
the_last_id = omega arith

an_id_of_33_bits_is_none : IsId (2 ^ 32) → ⊥
an_id_of_33_bits_is_none i = absurd (omega arith)

a_slot_of_33_bits_is_not_bounded : AreBounded (Slots (None ∷ Some (2 ^ 32) ∷ [])) → ⊥
a_slot_of_33_bits_is_not_bounded w = an_id_of_33_bits_is_none (w 1 None (omega arith))

-- ---- exchanges and operations
an_empty_place_is_bounded : IsBoundedBack (BackKey (255 ∷ []) None)
an_empty_place_is_bounded = (all_bits, tt)

an_item_of_9_bits_is_not_put : IsBoundedBack (Ends false false None (Some (256 ∷ []))) → ⊥
an_item_of_9_bits_is_not_put b = a_byte_of_9_bits_is_none [] b.1

a_link_of_33_bits_is_not_put : IsBoundedBack (BackLink (255 ∷ []) (Some (2 ^ 32))) → ⊥
a_link_of_33_bits_is_not_put b = an_id_of_33_bits_is_none b.1

a_pop_brings_nothing : IsBoundedOp Pop
a_pop_brings_nothing = tt

an_update_brings_bytes : IsBoundedOp (Update (255 ∷ []) (256 ∷ []) 0) → ⊥
an_update_brings_bytes b = a_byte_of_9_bits_is_none [] b.1

a_link_brings_an_id : IsBoundedOp (SetLink (255 ∷ []) (2 ^ 32) 0) → ⊥
a_link_brings_an_id b = an_id_of_33_bits_is_none b.1

-- ---- two lists of four numbers that are one index: the second is no key
one_index_of_two_lists : index_of (0 ∷ 1 ∷ 0 ∷ 0 ∷ []) ≡ index_of (256 ∷ 0 ∷ 0 ∷ 0 ∷ [])
unfolding index_of
one_index_of_two_lists = refl

the_second_is_no_key : AreBytes (256 ∷ 0 ∷ 0 ∷ 0 ∷ []) → ⊥
the_second_is_no_key b = a_byte_of_9_bits_is_none (0 ∷ 0 ∷ 0 ∷ []) b
