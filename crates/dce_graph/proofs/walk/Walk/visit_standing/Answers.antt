use Rattle.base_lists.proofs.Common.{◌≡◌, ◌∙◌, sym, take, Some, rules, slice_get_within, get_or_from_slice_get}
use Rattle.dce_graph.specs.Prelude.{is_of_pair, last_place}
use Rattle.dce_graph.proofs.NodeChainLaws.{meeting_starts, meeting_last, meeting_more, meeting_ends, nearer, next_is}
use Rattle.dce_graph.proofs.walk.Walk.visit_standing.Goals as goal

pub loop-next-init : goal.loop-next-init
loop-next-init c =
    let import = c.args.import.now in
    meeting_starts c.args.self.now.graph.now.nodes (is_of_pair import.«module» import.field) (Some c.args.last) c.args.search.now (sym c.requires.last)

pub index-next-requires : goal.index-next-requires
index-next-requires c =
    let import = c.args.import.now in
    let w = c.args.self.now in
    let l = meeting_last w.graph.now.nodes (is_of_pair import.«module» import.field) c.loop-next.next c.args.search.now c.loop-next.search c.in-Some.place c.loop-next.invariant c.in-Some.is in
    let within = slice_get_within w.before.items c.in-Some.place _ (next_is w import.«module» import.field l.0 c.in-Some.place c.requires.lookups l.1) in
    search (rules, within)

pub loop-next-smaller : goal.loop-next-smaller
loop-next-smaller c =
    let import = c.args.import.now in
    let w = c.args.self.now in
    let test = is_of_pair import.«module» import.field in
    let l = meeting_last w.graph.now.nodes test c.loop-next.next c.args.search.now c.loop-next.search c.in-Some.place c.loop-next.invariant c.in-Some.is in
    let follows : c.index-next.result.now ≡ last_place test (take c.in-Some.place w.graph.now.nodes) 0 = c.index-next.ensures ∙ get_or_from_slice_get w.before.items c.in-Some.place _ c.index-next.result.now (next_is w import.«module» import.field l.0 c.in-Some.place c.requires.lookups l.1) in
    nearer w.graph.now.nodes test c.loop-next.next c.index-next.result.now c.in-Some.place (slice_get_within w.graph.now.nodes c.in-Some.place l.1.element l.1.at) c.in-Some.is follows

pub loop-next-preserved : goal.loop-next-preserved
loop-next-preserved c =
    let import = c.args.import.now in
    let w = c.args.self.now in
    let test = is_of_pair import.«module» import.field in
    let l = meeting_last w.graph.now.nodes test c.loop-next.next c.args.search.now c.loop-next.search c.in-Some.place c.loop-next.invariant c.in-Some.is in
    let follows : c.index-next.result.now ≡ last_place test (take c.in-Some.place w.graph.now.nodes) 0 = c.index-next.ensures ∙ get_or_from_slice_get w.before.items c.in-Some.place _ c.index-next.result.now (next_is w import.«module» import.field l.0 c.in-Some.place c.requires.lookups l.1) in
    meeting_more w.graph.now.nodes test c.loop-next.next c.index-next.result.now c.args.search.now c.loop-next.search c.visit.new.search c.in-Some.place c.loop-next.invariant c.in-Some.is c.in_ok-visit.ensures follows

pub returns : goal.returns
returns c =
    let import = c.args.import.now in
    meeting_ends c.args.self.now.graph.now.nodes (is_of_pair import.«module» import.field) c.loop-next.next c.args.search.now c.loop-next.search c.loop-next.invariant c.in_default.is
