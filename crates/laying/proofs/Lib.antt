mod Laying
