-- Drawn texts: the text of a random job, by the words of a generator. It is JSON in lines of at
-- most 100 columns.
-- Example: The third item of a list by the word 4294967295 is `, 295`, and the seventeenth begins
-- the next line. The first step by the words 7, 15, 1, 0 and 5, the first of which picks the link
-- into node 3 of capacity 2, is `["n3", "lose_frame", 1]`; by 7, 15 and 64 it is `["n3", "close"]`.
-- Source: this project's own, over the streams of `rand_core`; `drawn_text` takes one of PCG32.
use Rattle.std.specs.Prelude.{ℕ, zero, suc, ◌+◌, ◌%◌, ◌==◌, nat_lt, if◌then◌else◌}
use Rattle.std.specs.Prelude.{codes, decimal, List, [], ◌++◌, length, slice_index_or}
use Rattle.std.specs.Prelude.{Option, Some, None, is_none, Bool, false, not}
use Rattle.rand_core.specs.Stream.{Stream, next_u32}
use Rattle.rand_core.specs.Steps.{stream_of, steps_u32}
use Rattle.rand_pcg.specs.Lcg.{started, increment_of}
use Rattle.rand_pcg.specs.Pcg.{multiplier_64, pcg32}
use Rattle.stab_frames.specs.Parameters.{Parameters}
use Rattle.rignolda_make.specs.declared.options.DrawOptions.{DrawOptions}
use Rattle.rignolda_make.specs.declared.shape.DrawnLink.{DrawnLink}
use Rattle.rignolda_make.specs.DrawnTrees.{below, pieces, is_inner, link_at}
use Rattle.rignolda_make.specs.DrawnTrees.{links_drawn, parents_drawn}
use Rattle.rignolda_make.specs.Options.{labels_of}

-- items are below this number
abbrev pub items_below : ℕ
items_below = 1000

-- what is before the entry at a place of a list, of which so many are on a line
abbrev pub separator : ℕ → ℕ → List ℕ
separator a_line place =
    if place == 0 then [] else if place % a_line == 0 then codes ",\n" else codes ", "

-- words, and then a number
unfoldable pub numbered : List ℕ → ℕ → List ℕ
numbered words number = words ++ decimal number

-- a member that is a number, and what is before it
unfoldable pub member : List ℕ → List ℕ → ℕ → List ℕ
member lead name number =
    lead ++ codes "\"" ++ name ++ codes "\": " ++ decimal number

-- the parameters of a link, or of a job, and what is before them
unfoldable pub both_text : List ℕ → Parameters → List ℕ
both_text lead p =
    member lead (codes "capacity") p.capacity ++ member (codes ", ") (codes "labels") p.labels

-- the name of a member that is a list, and the beginning of the list
unfoldable pub list_head : List ℕ → List ℕ
list_head name = codes "\"" ++ name ++ codes "\": ["

-- the texts of the first n places, one after the other
unfoldable pub texts : (ℕ → List ℕ) → ℕ → List ℕ
texts text_of zero = []
texts text_of (suc n) = texts text_of n ++ text_of n

-- the members that are numbers
unfoldable pub numbers_text : DrawOptions → Parameters → List ℕ
numbers_text o p =
    member (codes "{") (codes "version") 2 ++ both_text (codes ", ") p
    ++ member (codes ", ") (codes "h") o.hold ++ member (codes ", ") (codes "turns") o.turns
    ++ codes ",\n"

-- the parent of a node, where it has one, and the end of its entry
abbrev pub parent_text : Option ℕ → List ℕ
parent_text None = codes "\"}"
parent_text (Some parent) = numbered (codes "\", \"parent\": \"n") parent ++ codes "\"}"

-- a node, which is called `n` and its place
unfoldable pub node_text : List (Option ℕ) → ℕ → List ℕ
node_text parents place =
    separator 2 place ++ numbered (codes "{\"name\": \"n") place
    ++ parent_text (slice_index_or parents place None)

-- the tree
unfoldable pub tree_text : List (Option ℕ) → List ℕ
tree_text parents =
    list_head (codes "tree") ++ texts (node_text parents) (length parents) ++ codes "],\n"

-- the parameters of a link, or that they are those of the job
abbrev pub params_text : DrawnLink → List ℕ
params_text link =
    if link.are_own
    then both_text (codes "{") link.params ++ codes "}" else codes "null"

-- an entry for a link
unfoldable pub link_text : List DrawnLink → ℕ → List ℕ
link_text links place = separator 2 place ++ params_text (link_at links place)

-- the parameters of the links
unfoldable pub links_text : List DrawnLink → List ℕ
links_text links =
    list_head (codes "links") ++ texts (link_text links) (length links) ++ codes "],\n"

-- a number, and what is before it
abbrev pub number_text : ℕ → ℕ → List ℕ
number_text place number = separator 14 place ++ decimal number

-- a number below a limit, and what is before it
abbrev pub number_piece : ℕ → ℕ → Stream → List ℕ × Stream
number_piece limit place s = (number_text place (below limit s).0, (below limit s).1)

-- a list of that many items
unfoldable pub items_piece : ℕ → Stream → List ℕ × Stream
items_piece count s =
    let its_items = pieces (number_piece items_below) count s in
    (codes "[" ++ its_items.0 ++ codes "]", its_items.1)

-- a frame, whose label is below that many
unfoldable pub frame_piece : ℕ → ℕ → Stream → List ℕ × Stream
frame_piece labels place s =
    let label = below labels s in
    let its_item = below items_below label.1 in (
      separator 6 place ++ numbered (codes "[") label.0 ++ numbered (codes ", ") its_item.0
          ++ codes "]",
      its_item.1,
    )

-- fewer frames than `most`
unfoldable pub frames_piece : ℕ → ℕ → Stream → List ℕ × Stream
frames_piece labels most s =
    let count = below most s in
    let frames = pieces (frame_piece labels) count.0 count.1 in
    (list_head (codes "frames") ++ frames.0 ++ codes "],\n", frames.1)

-- both labels of a start, which are below that many
unfoldable pub labels_piece : ℕ → Stream → List ℕ × Stream
labels_piece labels s =
    let send = below labels s in
    let recv = below labels send.1 in (
      numbered (codes "{\"send\": ") send.0 ++ numbered (codes ", \"recv\": ") recv.0
          ++ codes ",\n",
      recv.1,
    )

-- a start of a link with these parameters: its labels are those of the link, or one more
unfoldable pub start_text : Parameters → Stream → List ℕ × Stream
start_text p s =
    let labels = labels_piece (p.labels + 1) s in
    let frames = frames_piece (p.labels + 1) (p.capacity + 1) labels.1 in
    let count = below (p.capacity + 1) frames.1 in
    let acks = pieces (number_piece (p.labels + 1)) count.0 count.1 in
    (labels.0 ++ frames.0 ++ list_head (codes "acks") ++ acks.0 ++ codes "]}", acks.1)

-- a start, and what is before it
unfoldable pub start_piece : List DrawnLink → ℕ → Stream → List ℕ × Stream
start_piece links place s =
    let its_start = start_text (link_at links place).params s in
    (separator 1 place ++ its_start.0, its_start.1)

-- a start for each link
unfoldable pub starts_piece : List DrawnLink → Stream → List ℕ × Stream
starts_piece links s =
    let starts = pieces (start_piece links) (length links) s in
    (list_head (codes "starts") ++ starts.0 ++ codes "],\n", starts.1)

-- the seed of a script: a word, and the place of its link
unfoldable pub seed_text : ℕ → ℕ → List ℕ
seed_text word place =
    numbered (codes "{\"seed\": [") word ++ numbered (codes ", ") place ++ codes "]"

-- the members of a script of 200 acts a list that are its length and its rates
unfoldable pub rates_text : ℕ → ℕ → List ℕ
rates_text loss repeat =
    member (codes ", ") (codes "length") 200 ++ member (codes ", ") (codes "loss") loss
    ++ member (codes ", ") (codes "repeat") repeat ++ codes "}"

-- a script, which is drawn at the rates of the options, and what is before it
unfoldable pub script_text : DrawOptions → ℕ → ℕ → List ℕ
script_text o word place = separator 1 place ++ seed_text word place ++ rates_text o.loss o.repeat

-- the script of the next word
abbrev pub script_piece : DrawOptions → ℕ → Stream → List ℕ × Stream
script_piece o place s = (script_text o (next_u32 s).0 place, (next_u32 s).1)

-- a script for each of that many links
unfoldable pub scripts_piece : DrawOptions → ℕ → Stream → List ℕ × Stream
scripts_piece o links s =
    let scripts = pieces (script_piece o) links s in
    (list_head (codes "scripts") ++ scripts.0 ++ codes "],\n", scripts.1)

-- how many items the opening of a node has: none but at an inner node
unfoldable pub held : List (Option ℕ) → ℕ → ℕ → Stream → ℕ × Stream
held parents hold place s = if is_inner parents place then below (hold + 1) s else (0, s)

-- the opening of a node, and what is before it
unfoldable pub opening_piece : List (Option ℕ) → ℕ → ℕ → Stream → List ℕ × Stream
opening_piece parents hold place s =
    let count = held parents hold place s in
    let its_items = items_piece count.0 count.1 in
    (separator 1 place ++ its_items.0, its_items.1)

-- an opening for each node
unfoldable pub openings_piece : List (Option ℕ) → ℕ → Stream → List ℕ × Stream
openings_piece parents hold s =
    let openings = pieces (opening_piece parents hold) (length parents) s in
    (list_head (codes "openings") ++ openings.0 ++ codes "],\n", openings.1)

-- the word of the event of a number below 16
unfoldable pub event_word : ℕ → List ℕ
event_word event =
    if nat_lt event 3 then codes "offer"
    else if nat_lt event 6 then codes "send_frame"
    else if nat_lt event 9 then codes "recv_frame"
    else if nat_lt event 10 then codes "recv_frame_keep"
    else if nat_lt event 12 then codes "send_ack"
    else if nat_lt event 14 then codes "recv_ack"
    else if nat_lt event 15 then codes "recv_ack_keep"
    else codes "close"

-- a loss at a place below the capacity
unfoldable pub loss_piece : ℕ → Stream → List ℕ × Stream
loss_piece capacity s =
    let queue = below 2 s in
    let place = below capacity queue.1 in (
      (if queue.0 == 0 then codes "lose_frame" else codes "lose_ack")
          ++ numbered (codes "\", ") place.0 ++ codes "]",
      place.1,
    )

-- whether a loss comes in place of this event: in place of a close, but for one time in sixty-four
unfoldable pub is_loss_drawn : ℕ → Stream → Bool × Stream
is_loss_drawn event s =
    if nat_lt event 15 then (false, s) else (not ((below 64 s).0 == 0), (below 64 s).1)

-- the event of a number below 16, on a link of this capacity
unfoldable pub event_piece : ℕ → ℕ → Stream → List ℕ × Stream
event_piece event capacity s =
    let is_loss = is_loss_drawn event s in
    if is_loss.0 then loss_piece capacity is_loss.1
    else (event_word event ++ codes "\"]", is_loss.1)

-- a step on one of the links, and what is before it
unfoldable pub step_piece : List DrawnLink → ℕ → Stream → List ℕ × Stream
step_piece links place s =
    let picked = below (length links) s in
    let link = link_at links picked.0 in
    let event = below 16 picked.1 in
    let rest = event_piece event.0 link.params.capacity event.1 in
    (separator 3 place ++ numbered (codes "[\"n") link.child ++ codes "\", \"" ++ rest.0, rest.1)

-- that many steps, where there is a link
unfoldable pub schedule_piece : ℕ → List DrawnLink → Stream → List ℕ × Stream
schedule_piece steps links s =
    let drawn = pieces (step_piece links) (if length links == 0 then 0 else steps) s in
    (list_head (codes "schedule") ++ drawn.0 ++ codes "]}\n", drawn.1)

-- the members that are drawn on a tree and its links
unfoldable pub members_piece : DrawOptions → List (Option ℕ) → List DrawnLink → Stream
    → List ℕ × Stream
members_piece o parents links s =
    let its_items = items_piece o.items s in
    let starts = starts_piece links its_items.1 in
    let scripts = scripts_piece o (length links) starts.1 in
    let openings = openings_piece parents o.hold scripts.1 in
    let steps = schedule_piece o.steps links openings.1 in (
      codes "\"items\": " ++ its_items.0 ++ codes ",\n" ++ starts.0 ++ scripts.0 ++ openings.0
          ++ steps.0,
      steps.1,
    )

-- the parameters of the links that have none of their own
abbrev pub params_of : DrawOptions → Parameters
params_of o = record { capacity = o.capacity; labels = labels_of o }

-- the text by these options and the words of a generator
unfoldable pub text_by : DrawOptions → Stream → List ℕ
text_by o s =
    let parents = parents_drawn o.nodes s in
    let links = links_drawn (params_of o) (is_none o.labels) parents.0 parents.1 in
    numbers_text o (params_of o) ++ tree_text parents.0 ++ links_text links.0
    ++ (members_piece o parents.0 links.0 links.1).0

-- the text by these options: the words are those of PCG32 from the seed, on the stream 54
unfoldable pub drawn_text : DrawOptions → List ℕ
drawn_text o =
    text_by o (stream_of (steps_u32 pcg32) (started 64 multiplier_64 o.seed (increment_of 64 54)))
