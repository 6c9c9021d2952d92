mod FaithfulRows
mod MadeRows
mod MachineRows
mod ClaimRows
mod LoadRows
mod RunRows
mod TextRows
